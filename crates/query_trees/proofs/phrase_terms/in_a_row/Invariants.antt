use Rattle.std.proofs.Common.{length, reverse, ◌++◌, ◌≡◌}
use Rattle.std.specs.List.{enumerate_from}
use Rattle.query_trees.proofs.phrase_terms.in_a_row.Given as goal

-- those so far and those left make all
abbrev pub invariant-loop-term : goal.invariant-loop-term
invariant-loop-term l = l.pairs.items ++ enumerate_from (length l.pairs.items) (reverse l.left.items) ≡ enumerate_from 0 l.fn.terms.items

abbrev pub decreases-loop-term : goal.decreases-loop-term
decreases-loop-term l = length l.left.items
