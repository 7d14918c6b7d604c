use Rattle.std.proofs.Common.{◌==◌}
use Rattle.terms.proofs.TextKeys.{found_behind, none_behind}
use Rattle.terms.proofs.text_keys.leaf_of.Goals as goal

pub returns-in-Some : goal.returns-in-Some
returns-in-Some c = found_behind (◌==◌ 0) c.args.key.now c.in-Some.end c.in-Some.ensures

pub returns-in-None : goal.returns-in-None
returns-in-None c = none_behind (◌==◌ 0) c.args.key.now c.in-None.ensures
