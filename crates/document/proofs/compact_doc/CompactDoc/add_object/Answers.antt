use Rattle.definitions.specs.Values as values
use Rattle.document_values.specs.Owned.{owned_members}
use Rattle.layouts.specs.DocumentReading.{to_members}
use Rattle.document.proofs.compact_doc.CompactDoc.add_object.Goals as goal

pub add-requires : goal.add-requires
add-requires c = ((c.args.field, values.object (to_members (owned_members c.args.members.now))), c.in_ok-pair.ensures.good, c.in_ok-pair.ensures.pair)
