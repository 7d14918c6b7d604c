-- Whether the search finds a place.
use Rattle.std.proofs.Common.{ap, is_some, ◌∙◌}
use Rattle.memchr.proofs.lemmas.ValueLemmas.{FindsNeedle-value}
use Rattle.ask.specs.Served.{has_text}
use Rattle.ask.proofs.further_request.has_text.Goals as goal

pub returns : goal.returns
returns c =
    c.is_some.ensures
    ∙ ap is_some (FindsNeedle-value c.as_bytes.result.now c.args.text.now c.find.result c.find.ensures)
    ∙ ap (λ line. has_text line c.args.text.now) c.as_bytes.ensures.value
