use Rattle.std.proofs.Common.{length, ◌≡◌}
use Rattle.definitions.specs.Stored.{stored_pairs}
use Rattle.document.specs.FieldLists.{lent_lists}
use Rattle.document.specs.NamedDocs.{put_all}
use Rattle.document.proofs.field_lists.put_stored.Given as goal

-- what is put so far, with the pairs that are left
abbrev pub invariant-loop-field : goal.invariant-loop-field
invariant-loop-field l =
    (goal.iterator-loop-field).can_next l.field-iterator
    × (goal.iterator-loop-field).is_finite l.field-iterator
    × (length l.lists.items ≡ length l.schema)
    × (put_all (stored_pairs l.schema l.field-iterator) (lent_lists l.lists.items) ≡ put_all (stored_pairs l.schema l.doc) (lent_lists l.initial.lists.items))
