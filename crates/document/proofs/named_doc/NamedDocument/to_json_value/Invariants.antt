-- What is left decides.
use Rattle.std.proofs.Common.{◌≡◌}
use Rattle.definitions.specs.Printed.{printed_fields}
use Rattle.document.proofs.NamedForms.{printed_before}
use Rattle.document.specs.NamedDocs.{named_of}
use Rattle.serde_json.specs.View.{members_view}
use Rattle.document.proofs.named_doc.NamedDocument.to_json_value.Given as goal

-- the fields that are left, put before the members so far, are all
abbrev pub invariant-loop-name : goal.invariant-loop-name
invariant-loop-name l = printed_before (named_of l.name-iterator.iter.rest.now) (members_view l.members.entries) ≡ printed_fields l.self
