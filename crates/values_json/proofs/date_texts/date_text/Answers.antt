-- The parts of a date's text are those of the definition.
use Rattle.std.proofs.Common.{ap₂, ◌++◌, ◌∙◌}
use Rattle.values_json.proofs.Calendar.{parts_of_date}
use Rattle.values_json.specs.DateParts.{parts_text}
use Rattle.values_json.proofs.date_texts.date_text.Goals as goal

pub returns : goal.returns
returns c =
    c.in_ok-push_instant.ensures
    ∙ ap₂ (λ t n. t ++ parts_text n) c.in_ok-text.ensures.bytes c.nanos_from_year_0.ensures.value
    ∙ parts_of_date c.args.date
