-- What was written and what is left make the whole.
use Rattle.std.proofs.Common.{drop, string_bytes, ◌++◌, ◌≡◌}
use Rattle.definitions.specs.Addresses.{groups_text}
use Rattle.values_json.proofs.GroupsWritten.{later_groups}
use Rattle.values_json.proofs.address_texts.groups_text.Given as goal

abbrev pub invariant-loop-shift : goal.invariant-loop-shift
invariant-loop-shift l = (string_bytes l.text ++ later_groups l.address (drop l.shift-index l.shift-items) ≡ groups_text l.address)
