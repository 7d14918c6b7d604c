use Rattle.std.proofs.Common.{map, take, ◌≡◌}
use Rattle.definitions.specs.Scoring.{greatest_of}
use Rattle.phrases.proofs.adjusted_terms.greatest_offset.Given as goal

-- it is the greatest so far
abbrev pub invariant-loop-i : goal.invariant-loop-i
invariant-loop-i g l = l.greatest ≡ greatest_of (map (λ t. t.0) (take l.i l.term_postings.items))
