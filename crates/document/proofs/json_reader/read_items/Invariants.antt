-- What was added and what is left make the whole.
use Rattle.std.proofs.Common.{◌≡◌, drop}
use Rattle.definitions.specs.Reading as reading
use Rattle.document.specs.JsonRead.{added_to}
use Rattle.serde_json.specs.View.{items_view}
use Rattle.document.proofs.json_reader.read_items.Given as goal

abbrev pub invariant-loop-item : goal.invariant-loop-item
invariant-loop-item l = added_to (l.doc) (reading.read_items l.field l.entry (items_view (drop l.item-index l.items))) ≡ added_to (l.initial.doc) (reading.read_items l.field l.entry (items_view l.items))
