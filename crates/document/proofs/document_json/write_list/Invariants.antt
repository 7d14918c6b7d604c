use Rattle.std.proofs.Common.{◌++◌, ◌≡◌}
use Rattle.definitions.specs.Printed.{printed_list}
use Rattle.document.specs.FieldLists.{lent_values}
use Rattle.json.specs.Tree.{items_tokens}
use Rattle.serde_json.specs.Written.{items_outline}
use Rattle.document.proofs.document_json.write_list.Given as goal

-- what is written so far, with the values that are left
abbrev pub invariant-loop-value : goal.invariant-loop-value
invariant-loop-value l =
    (l.out.before ≡ l.initial.out.before)
    × (l.out.tokens ++ items_tokens (items_outline (printed_list (lent_values l.value-iterator.rest.items))) ≡ l.initial.out.tokens ++ items_tokens (items_outline (printed_list (lent_values l.fn.values.items))))
