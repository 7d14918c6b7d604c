use Rattle.std.proofs.Common.{◌≡◌, drop, map, take}
use Rattle.definitions.specs.Printed.{printed, printed_onto}
use Rattle.document_values.specs.Owned.{owned_members, owned_value}
use Rattle.layouts.specs.DocumentReading.{to_members}
use Rattle.serde_json.specs.Data as json
use Rattle.serde_json.specs.View.{members_view, view}
use Rattle.document_values.proofs.json_printer.+print.Given as goal

-- the values so far are printed
abbrev pub invariant-values_to_json-loop-value : goal.invariant-values_to_json-loop-value
invariant-values_to_json-loop-value l = map view l.items.items ≡ map (λ v. printed (owned_value v)) (take l.value-index l.values)

-- the members that are left, put onto those so far, are all
abbrev pub invariant-members_to_json-loop-key : goal.invariant-members_to_json-loop-key
invariant-members_to_json-loop-key l = printed_onto (members_view l.printed.entries) (to_members (owned_members (drop l.key-index l.members))) ≡ printed_onto json.no_members (to_members (owned_members l.members))
