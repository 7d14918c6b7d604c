use Rattle.std.proofs.Common.{◌≡◌}
use Rattle.term_scorer.specs.Explaining.{explained_value}
use Rattle.term_scorer.proofs.explanation.Explanation.add_consts.Given as goal

abbrev pub invariant-loop-i : goal.invariant-loop-i
invariant-loop-i l = explained_value l.self ≡ explained_value l.initial.self
