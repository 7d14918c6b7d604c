use Rattle.std.proofs.Common.{map, take, ◌≤◌}
use Rattle.docsets.specs.Entries.{most_positions}
use Rattle.definitions.specs.Scoring.{greatest_of}
use Rattle.phrases.proofs.adjusted_terms.most_of.Given as goal

-- no document so far has more
abbrev pub invariant-loop-i : goal.invariant-loop-i
invariant-loop-i g l = greatest_of (map (λ s. most_positions (g.S.DocSet.entries s)) (take l.i l.docsets.items)) ≤ l.most
