-- The weights so far are those of other terms.
use Rattle.std.proofs.Common.{drop, map, ◌≡◌}
use Rattle.ask.specs.Rarity.{weight_in}
use Rattle.ask.specs.Views.{weight_of}
use Rattle.ask.proofs.rarity.weight_in.Given as goal

abbrev pub invariant-loop-weight : goal.invariant-loop-weight
invariant-loop-weight l = weight_in (map weight_of (drop l.weight-index l.weights)) l.term ≡ weight_in (map weight_of l.weights) l.term
