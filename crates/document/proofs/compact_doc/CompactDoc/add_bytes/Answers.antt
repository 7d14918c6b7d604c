use Rattle.std.proofs.Common.{arith}
use Rattle.definitions.specs.Values as values
use Rattle.document.proofs.LeafPairs.{bytes_pair, sized_parts}
use Rattle.document.proofs.compact_doc.CompactDoc.add_bytes.Goals as goal

pub add_sized-requires : goal.add_sized-requires
add_sized-requires c = (
  (c.args.field, values.bytes c.args.bytes.now),
  λ few. bytes_pair c.args.field c.args.bytes.now c.value_head.ensures.field (λ i. (let f = (c.type_inv.bytes i).fits in omega (arith, f))) few,
  sized_parts c.args.field 4 c.value_head.result c.args.bytes.now c.value_head.ensures.head,
)
