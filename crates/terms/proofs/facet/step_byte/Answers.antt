-- A byte that no backslash takes is a slash or a byte of a step.
use Rattle.std.proofs.Common.{ap, ap₂, ◌∙◌, ◌∷◌}
use Rattle.terms.proofs.FacetTexts.{text-plain, text-slash, text-taken, text_from}
use Rattle.terms.proofs.facet.step_byte.Goals as goal
use Rattle.terms.proofs.facet.step_byte.Goals.{else-not-escaped-via-then-not-escaped+else-byte-eq47, else-not-escaped-via-else-not-escaped}

pub returns-then-byte-eq47 : goal.returns-then-byte-eq47
returns-then-byte-eq47 c rest = ap₂ (λ escaped byte. text_from escaped (byte ∷ rest)) c.if-not-escaped.true c.if-byte-eq47.true ∙ text-slash rest

pub returns : goal.returns
returns c rest =
    let byte = c.args.byte in
    elim c.else-not-escaped.branch [
      | else-not-escaped-via-then-not-escaped+else-byte-eq47 w ↦ ap (λ escaped. text_from escaped (byte ∷ rest)) w.if-not-escaped.true ∙ text-plain byte rest (c.requires w.if-not-escaped.true) w.if-byte-eq47.false
      | else-not-escaped-via-else-not-escaped w ↦ ap (λ escaped. text_from escaped (byte ∷ rest)) w.if-not-escaped.false ∙ text-taken byte rest
    ]
