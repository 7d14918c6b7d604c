use Rattle.std.proofs.Common.{drop, length, ◌++◌, ◌+◌, ◌≡◌}
use Rattle.document.specs.FieldLists.{lent_lists}
use Rattle.document.specs.NamedDocs.{named_lists, named_of}
use Rattle.document.proofs.named_doc.named.Given as goal

-- the fields so far, and those whose lists are left, are all
abbrev pub invariant-loop-values : goal.invariant-loop-values
invariant-loop-values l =
    let left = l.values-iterator.rest.items in
    (l.field + length left ≡ length l.schema)
    × (named_of l.fields.items ++ named_lists (drop l.field l.schema) (lent_lists left) ≡ named_lists l.schema (lent_lists l.fn.lists.items))
