-- What was added and what is left make the whole.
use Rattle.std.proofs.Common.{◌≡◌}
use Rattle.definitions.specs.Reading as reading
use Rattle.document.specs.JsonRead.{added_to}
use Rattle.serde_json.specs.View.{members_view}
use Rattle.document.proofs.json_reader.read_members.Given as goal

abbrev pub invariant-loop-key : goal.invariant-loop-key
invariant-loop-key l = added_to (l.doc) (reading.read_members l.schema (members_view l.key-iterator)) ≡ reading.read_members l.schema (members_view l.members.entries)
