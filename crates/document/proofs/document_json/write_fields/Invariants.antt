use Rattle.std.proofs.Common.{◌++◌, ◌≡◌}
use Rattle.document.specs.FieldLists.{lent_fields}
use Rattle.json.specs.Tree.{members_tokens}
use Rattle.serde_json.specs.Written.{members_outline}
use Rattle.document.proofs.document_json.write_fields.Given as goal

-- what is written so far, with the fields that are left
abbrev pub invariant-loop-name : goal.invariant-loop-name
invariant-loop-name l =
    (l.out.before ≡ l.initial.out.before)
    × (l.out.tokens ++ members_tokens (members_outline (lent_fields l.name-iterator)) ≡ l.initial.out.tokens ++ members_tokens (members_outline (lent_fields l.fn.fields.entries)))
