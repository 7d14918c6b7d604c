use Rattle.std.proofs.Common.{ap, ap₂, ◌++◌, ◌∙◌, ◌≡◌, rules, FitsSigned}
use Rattle.std.proofs.lemmas.Int.{to_z-of_z}
use Rattle.std.specs.Int.{cast_signed, cast_unsigned, w64}
use Rattle.definitions.specs.NumberCodes.{u64_bytes}
use Rattle.definitions.specs.Values as values
use Rattle.document.proofs.LeafPairs.{date_pair}
use Rattle.document.proofs.compact_doc.CompactDoc.add_date.Goals as goal

pub add_parts-requires : goal.add_parts-requires
add_parts-requires c =
    let fits : FitsSigned w64 c.args.time = search rules in
    let cast : c.cast_unsigned.result ≡ cast_unsigned w64 c.args.time = c.cast_unsigned.ensures ∙ ap (λ z. cast_unsigned w64 (cast_signed w64 (cast_unsigned w64 z))) c.into_timestamp_nanos-nanos.ensures ∙ ap (cast_unsigned w64) (to_z-of_z w64 c.args.time fits) in (
      (c.args.field, values.date c.args.time),
      date_pair c.args.field c.args.time c.value_head.ensures.field fits,
      ap₂ (λ h ns. h ++ ns) c.value_head.ensures.head (c.to_le_bytes.ensures ∙ ap u64_bytes cast),
    )
