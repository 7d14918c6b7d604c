use Rattle.std.proofs.Common.{[], ap, ◌++◌, ◌∷◌}
use Rattle.std.specs.Int.{from_bool}
use Rattle.definitions.specs.Values as values
use Rattle.document.proofs.LeafPairs.{bool_pair}
use Rattle.document.proofs.compact_doc.CompactDoc.add_bool.Goals as goal

pub add_parts-requires : goal.add_parts-requires
add_parts-requires c = (
  (c.args.field, values.bool c.args.b),
  bool_pair c.args.field c.args.b c.value_head.ensures.field,
  ap (λ h. h ++ from_bool c.args.b ∷ []) c.value_head.ensures.head,
)
