use Rattle.std.proofs.Common.{ap, length, subst, ◌++◌, ◌<◌, ◌^◌, ◌∙◌}
use Rattle.definitions.specs.NumberCodes.{sized_bytes}
use Rattle.definitions.specs.Values as values
use Rattle.document.proofs.LeafPairs.{facet_pair, sized_parts}
use Rattle.document.proofs.compact_doc.CompactDoc.add_facet.Goals as goal

pub add_sized-requires : goal.add_sized-requires
add_sized-requires c = (
  (c.args.field, values.facet c.args.facet.now),
  λ few. facet_pair c.args.field c.args.facet.now c.value_head.ensures.field c.encoded_str.ensures.facet (subst (λ s. length s < 2 ^ 64) (c.as_bytes.ensures.value ∙ c.encoded_str.ensures.value) few),
  ap (λ s. c.value_head.result ++ sized_bytes s) (c.as_bytes.ensures.value ∙ c.encoded_str.ensures.value)
      ∙ sized_parts c.args.field 3 c.value_head.result _ c.value_head.ensures.head,
)
