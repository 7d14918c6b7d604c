use Rattle.std.proofs.Common.{◌++◌, ◌≡◌}
use Rattle.document.specs.FieldLists.{lent_values}
use Rattle.document_values.specs.Owned.{owned_values}
use Rattle.document.proofs.named_doc.copies.Given as goal

-- what is copied so far, with the values that are left
abbrev pub invariant-loop-value : goal.invariant-loop-value
invariant-loop-value l = owned_values l.owned.items ++ lent_values l.value-iterator.rest.items ≡ lent_values l.fn.values.items
