-- The terms that are left decide.
use Rattle.std.proofs.Common.{drop, ◌≡◌}
use Rattle.std.specs.List.{list_all}
use Rattle.definitions.specs.TermData.{reads_back}
use Rattle.settings.proofs.settings.Settings.names_weights.Given as goal

abbrev pub invariant-loop-term : goal.invariant-loop-term
invariant-loop-term l = list_all (λ w. reads_back l.schema w.0) (drop l.term-index l.self.weights) ≡ list_all (λ w. reads_back l.schema w.0) l.self.weights
