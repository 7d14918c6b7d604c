use Rattle.std.proofs.Common.{length, ◌≡◌, ◌≤◌}
use Rattle.definitions.specs.Printed.{printed_fields}
use Rattle.document.proofs.NamedForms.{printed_before}
use Rattle.document.specs.FieldLists.{lent_fields, lent_lists}
use Rattle.document.specs.NamedDocs.{named_lists}
use Rattle.document.proofs.document_json.by_name.Given as goal

-- the fields of the lists that are left, put before the members so far, are all
abbrev pub invariant-loop-values : goal.invariant-loop-values
invariant-loop-values l =
    (length l.left.items ≤ length l.schema)
    × (printed_before (named_lists l.schema (lent_lists l.left.items)) (lent_fields l.fields.entries) ≡ printed_fields (named_lists l.schema (lent_lists l.fn.lists.items)))

abbrev pub decreases-loop-values : goal.decreases-loop-values
decreases-loop-values l = length l.left.items
