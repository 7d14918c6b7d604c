use Rattle.std.proofs.Common.{length, ◌-◌, ◌≡◌, ◌≤◌}
use Rattle.document.specs.FieldLists.{lent_lists}
use Rattle.document.specs.NamedDocs.{no_lists}
use Rattle.document.proofs.field_lists.empty_lists.Given as goal

abbrev pub invariant-loop-alloc : goal.invariant-loop-alloc
invariant-loop-alloc l = (length l.lists.items ≤ l.count) × (lent_lists l.lists.items ≡ no_lists (length l.lists.items))

abbrev pub decreases-loop-alloc : goal.decreases-loop-alloc
decreases-loop-alloc l = l.count - length l.lists.items
