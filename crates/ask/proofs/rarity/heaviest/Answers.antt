-- Before the first term.
use Rattle.std.proofs.Common.{le_refl, map}
use Rattle.ask.proofs.Heaviest.{one_at_least}
use Rattle.ask.specs.Views.{weight_of}
use Rattle.query_trees.specs.NeededTerms.{needed}
use Rattle.ask.proofs.rarity.heaviest.Goals as goal

pub loop-term-init : goal.loop-term-init
loop-term-init c = record {
  most = one_at_least (map weight_of c.args.weights.now) (map needed c.args.terms.now);
  some = le_refl 1;
}
