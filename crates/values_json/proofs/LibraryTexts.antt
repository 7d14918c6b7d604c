-- What the libraries read of a text, as the definitions have it.
use Rattle.std.proofs.Common.{Err, List, None, Ok, Option, Result, Some, ap, ◌≡◌, ℕ, ℤ}
use Rattle.std.specs.Result.{result_ok}
use Rattle.base64.specs.Engines.{standard}
use Rattle.base64.specs.GeneralPurpose.{decode_of, decoded_of}
use Rattle.base64.specs.declared.decode.DecodeError.{DecodeError}
use Rattle.definitions.specs.Dates.{date_in}
use Rattle.definitions.specs.Reading.{date_value}
use Rattle.definitions.specs.Values.{Value}
use Rattle.definitions.specs.declared.fault.Fault.{Fault}
use Rattle.definitions.specs.declared.fault.Fault.TheVariants.{ParseError}
use Rattle.jiff.specs.Words.{Error, parse_timestamp}
use Rattle.values_json.specs.Dates.{date_within}

-- ---- timestamps

date_or_refused : Option ℤ → Result Value Fault
date_or_refused o = elim o [ None ↦ Err ParseError | Some nanos ↦ date_within nanos ]

pub timestamp_read : (s : List ℕ) (nanos : ℤ) → parse_timestamp s ≡ Ok nanos → date_value s ≡ date_within nanos
unfolding date_in date_or_refused
timestamp_read s nanos read = ap (λ r. date_or_refused (result_ok r)) read

pub timestamp_refused : (s : List ℕ) (e : Error) → parse_timestamp s ≡ Err e → date_value s ≡ Err ParseError
unfolding date_in date_or_refused
timestamp_refused s e refused = ap (λ r. date_or_refused (result_ok r)) refused

-- ---- base64

pub bytes_read : (s bs : List ℕ) → decode_of standard s ≡ Ok bs → decoded_of standard s ≡ Some bs
unfolding decoded_of
bytes_read s bs read = ap result_ok read

pub bytes_refused : (s : List ℕ) (e : DecodeError) → decode_of standard s ≡ Err e → decoded_of standard s ≡ None
unfolding decoded_of
bytes_refused s e refused = ap result_ok refused
