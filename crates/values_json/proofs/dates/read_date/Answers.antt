-- What `jiff` reads is what the definition reads.
use Rattle.std.proofs.Common.{FitsSigned, ap, arith, sym, ◌∙◌}
use Rattle.std.specs.Int.{w128}
use Rattle.std.proofs.lemmas.Int.{ints, to_z-of_z}
use Rattle.values_json.proofs.LibraryTexts.{timestamp_read, timestamp_refused}
use Rattle.values_json.specs.Dates.{date_within}
use Rattle.values_json.proofs.dates.read_date.Goals as goal

pub returns-in-Ok : goal.returns-in-Ok
returns-in-Ok c =
    let t = c.in-Ok.timestamp in
    let fits : FitsSigned w128 c.as_nanosecond.result = omega (arith, ints, t.in_range, c.as_nanosecond.ensures) in
    let within = simp to_z-of_z at c.date_within.ensures in
    within ∙ ap date_within c.as_nanosecond.ensures ∙ sym (timestamp_read c.args.text.now t.nanosecond (sym c.in-Ok.ensures.value))

pub returns-in-Err : goal.returns-in-Err
returns-in-Err c = sym (timestamp_refused c.args.text.now c.in-Err.field-0 (sym c.in-Err.ensures.value))
