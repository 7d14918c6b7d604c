use Rattle.std.proofs.Common.{drop, rules, zip}
use Rattle.query_checks.proofs.PhraseSteps.{no_items, none_left}
use Rattle.query_checks.proofs.json_phrases.paired.Goals as goal

pub returns-in-None : goal.returns-in-None
returns-in-None c = none_left c.loop-offset.pairs.items (drop c.loop-offset.offset-index c.args.offsets.now) c.loop-offset.left.items (zip c.args.offsets.now c.args.terms.items) (no_items c.loop-offset.left.items (search rules)) c.loop-offset.invariant
