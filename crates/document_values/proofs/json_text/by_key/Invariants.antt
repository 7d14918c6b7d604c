use Rattle.std.proofs.Common.{◌≡◌}
use Rattle.definitions.specs.Printed.{printed_onto}
use Rattle.document_values.specs.WrittenJson.{lent_members}
use Rattle.layouts.specs.DocumentReading.{to_members}
use Rattle.serde_json.specs.Data.{no_members}
use Rattle.document_values.proofs.json_text.by_key.Given as goal

-- the members that are left, put onto those so far, are all
abbrev pub invariant-loop-key : goal.invariant-loop-key
invariant-loop-key l =
    (goal.iterator-loop-key).can_next l.key-iterator
    × (goal.iterator-loop-key).is_finite l.key-iterator
    × (printed_onto (lent_members l.sorted.entries) (to_members l.key-iterator) ≡ printed_onto no_members (to_members l.fn.members))
