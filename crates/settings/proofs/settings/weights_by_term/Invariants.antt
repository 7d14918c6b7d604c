-- The terms so far have their weights, none of them too great, and none comes twice.
use Rattle.std.proofs.Common.{◌≡◌, nat_le, take, true}
use Rattle.std.specs.List.{list_all}
use Rattle.definitions.specs.Scoring.{max_score}
use Rattle.definitions.specs.Settings.{weighs_once}
use Rattle.settings.specs.Weights.{WeighsTerms}
use Rattle.settings.proofs.settings.weights_by_term.Given as goal

abbrev pub invariant-loop-term : goal.invariant-loop-term
invariant-loop-term l = record {
  by_term : WeighsTerms l.weight_by_term (take l.term-index l.weights);
  fit : list_all (λ w. nat_le w.1 max_score) (take l.term-index l.weights) ≡ true;
  once : weighs_once (take l.term-index l.weights) ≡ true;
}
