use Rattle.std.proofs.Common.{◌++◌, ◌<◌, ◌^◌, ◌∙◌, ap, length, subst}
use Rattle.definitions.specs.NumberCodes.{sized_bytes}
use Rattle.definitions.specs.Values as values
use Rattle.document.proofs.LeafPairs.{sized_parts, str_pair}
use Rattle.document.proofs.compact_doc.CompactDoc.add_text.Goals as goal

pub add_sized-requires : goal.add_sized-requires
add_sized-requires c = (
  (c.args.field, values.str c.args.text.now),
  λ few. str_pair c.args.field c.args.text.now c.value_head.ensures.field c.utf8.text (subst (λ s. length s < 2 ^ 64) c.as_bytes.ensures.value few),
  ap (λ s. c.value_head.result ++ sized_bytes s) c.as_bytes.ensures.value ∙ sized_parts c.args.field 0 c.value_head.result c.args.text.now c.value_head.ensures.head,
)
