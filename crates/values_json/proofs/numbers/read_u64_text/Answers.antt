-- The texts that `parse` reads are those of one digit or more, before which a plus may stand.
use Rattle.std.proofs.Common.{Err, Ok, ap, sym, ℕ}
use Rattle.definitions.specs.Reading.{or_parse_error}
use Rattle.values_json.proofs.NumberTexts.{u64_parsed}
use Rattle.values_json.proofs.numbers.read_u64_text.Goals as goal

pub returns-in-Ok : goal.returns-in-Ok
returns-in-Ok c = sym (ap or_parse_error (u64_parsed {E = ℕ} c.args.text.now (Ok c.in-Ok.value) c.in-Ok.ensures.value.0))

pub returns-in-Err : goal.returns-in-Err
returns-in-Err c = sym (ap or_parse_error (u64_parsed c.args.text.now (Err c.in-Err.field-0) c.in-Err.ensures.value.0))
