use Rattle.std.proofs.Common.{take, ◌++◌, ◌≡◌}
use Rattle.std.specs.List.{items_where_true}
use Rattle.merging.proofs.member_norms.push_living.Given as goal

-- the ids of the documents so far
abbrev pub invariant-loop-doc : goal.invariant-loop-doc
invariant-loop-doc l = l.out.items ≡ l.fn.out.items ++ items_where_true (take l.doc l.alive) (take l.doc l.reader)
