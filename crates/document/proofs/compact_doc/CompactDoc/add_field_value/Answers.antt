use Rattle.document_values.specs.Owned.{owned_value}
use Rattle.document.proofs.compact_doc.CompactDoc.add_field_value.Goals as goal

pub add-requires : goal.add-requires
add-requires c = ((c.args.field, owned_value c.args.value.now), c.in_ok-pair.ensures.good, c.in_ok-pair.ensures.pair)
