use Rattle.std.proofs.Common.{◌++◌, ◌≡◌, flat_map}
use Rattle.definitions.specs.Stored.{stored_pairs}
use Rattle.layouts.specs.DocumentBytes.{pair_bytes}
use Rattle.document.proofs.compact_doc.CompactDoc.put_stored.Given as goal

-- what is put so far, with the pairs that are left
abbrev pub invariant-loop-field : goal.invariant-loop-field
invariant-loop-field l =
    (goal.iterator-loop-field).can_next l.field-iterator
    × (goal.iterator-loop-field).is_finite l.field-iterator
    × (l.out.items ++ flat_map pair_bytes (stored_pairs l.schema l.field-iterator) ≡ l.initial.out.items ++ flat_map pair_bytes (stored_pairs l.schema l.self))
