-- The texts that `parse` reads are those of one digit or more, before which a sign may stand.
use Rattle.std.proofs.Common.{Err, FitsSigned, Ok, ap, sym, w64, ℕ}
use Rattle.std.proofs.lemmas.Int.{to_z-of_z}
use Rattle.definitions.specs.Reading.{or_parse_error}
use Rattle.values_json.proofs.NumberTexts.{i64_parsed, read_fits}
use Rattle.values_json.proofs.numbers.read_i64_text.Goals as goal

pub returns-in-Ok : goal.returns-in-Ok
returns-in-Ok c =
    let fits : FitsSigned w64 c.in-Ok.value = read_fits ℕ c.args.text.now c.in-Ok.value c.in-Ok.ensures.value.0 in
    rw to_z-of_z (sym (ap or_parse_error (i64_parsed {E = ℕ} c.args.text.now (Ok c.in-Ok.value) c.in-Ok.ensures.value.0)))

pub returns-in-Err : goal.returns-in-Err
returns-in-Err c = sym (ap or_parse_error (i64_parsed c.args.text.now (Err c.in-Err.field-0) c.in-Err.ensures.value.0))
