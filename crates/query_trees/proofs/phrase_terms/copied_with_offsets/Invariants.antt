use Rattle.std.proofs.Common.{take, ◌≡◌}
use Rattle.query_trees.proofs.phrase_terms.copied_with_offsets.Given as goal

-- those so far are copied
abbrev pub invariant-loop-offset : goal.invariant-loop-offset
invariant-loop-offset l = l.copies.items ≡ take l.offset-index l.terms
