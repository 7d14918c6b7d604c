-- Dates within 64 bits of nanoseconds.
use Rattle.std.specs.Prelude.{◌&&◌, ◌^◌, Err, Ok, Result, if◌then◌else◌, int_le, int_lt, neg_ℤ, pos, ℤ}
use Rattle.definitions.specs.Values.{Value, date}
use Rattle.definitions.specs.declared.fault.Fault.{Fault}
use Rattle.definitions.specs.declared.fault.Fault.TheVariants.{OverflowError}

-- the date `nanos` nanoseconds after the start of 1970, or `OverflowError`
abbrev pub date_within : ℤ → Result Value Fault
date_within nanos = if int_le (neg_ℤ (pos (2 ^ 63))) nanos && int_lt nanos (pos (2 ^ 63)) then Ok (date nanos) else Err OverflowError
