use Rattle.std.proofs.Common.{ap₂, ◌++◌}
use Rattle.definitions.specs.Values as values
use Rattle.document.proofs.LeafPairs.{u64_pair}
use Rattle.document.proofs.compact_doc.CompactDoc.add_u64.Goals as goal

pub add_parts-requires : goal.add_parts-requires
add_parts-requires c = (
  (c.args.field, values.u64 c.args.n),
  u64_pair c.args.field c.args.n c.value_head.ensures.field c.ranges.n.fits,
  ap₂ (λ h ns. h ++ ns) c.value_head.ensures.head c.to_le_bytes.ensures,
)
