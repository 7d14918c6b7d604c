-- The most so far, and that of the terms that are left, are the most of all.
use Rattle.std.proofs.Common.{drop, map, max, ◌≡◌, ◌≤◌}
use Rattle.ask.specs.Rarity.{heaviest}
use Rattle.ask.specs.Views.{weight_of}
use Rattle.query_trees.specs.NeededTerms.{needed}
use Rattle.ask.proofs.rarity.heaviest.Given as goal

abbrev pub invariant-loop-term : goal.invariant-loop-term
invariant-loop-term l = record {
  most : max l.most (heaviest (map weight_of l.weights) (map needed (drop l.term-index l.terms))) ≡ heaviest (map weight_of l.weights) (map needed l.terms);
  some : 1 ≤ l.most;
}
