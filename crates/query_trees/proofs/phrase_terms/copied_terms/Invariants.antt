use Rattle.std.proofs.Common.{map, take, ◌≡◌}
use Rattle.query_trees.proofs.phrase_terms.copied_terms.Given as goal

-- those so far are copied
abbrev pub invariant-loop-offset : goal.invariant-loop-offset
invariant-loop-offset l = l.copies.items ≡ map (λ t. t.1) (take l._offset-index l.terms)
