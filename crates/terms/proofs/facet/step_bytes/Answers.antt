-- Each turn passes one byte.
use Rattle.std.proofs.Common.{[], add-one, ap, ap₂, drop, drop-cons, false, get_or, sym, true, ◌++◌, ◌+◌, ◌∙◌, ◌∷◌, ◌≡◌}
use Rattle.definitions.proofs.Lists.{all_behind as before}
use Rattle.terms.proofs.FacetTexts.{before-before, text_from}
use Rattle.terms.proofs.facet.step_bytes.Goals as goal
use Rattle.terms.proofs.facet.step_bytes.Goals.{then-not-escaped+then-byte-eq92, else-not-escaped+in_ok-push}

pub loop-byte-preserved : goal.loop-byte-preserved
loop-byte-preserved c =
    let items = c.as_bytes-byte-items.result.now in
    let i = c.loop-byte.byte-index in
    let rest = drop (i + 1) items in
    let left : drop i items ≡ get_or items i 0 ∷ rest = rw add-one (drop-cons items i 0 c.loop-byte-test.true) in
    elim c.if-not-escaped.branch [
      | then-not-escaped+then-byte-eq92 w ↦
          let passed : text_from true rest ≡ text_from c.loop-byte.escaped (drop i items) = sym (ap (text_from c.loop-byte.escaped) left ∙ ap₂ (λ escaped byte. text_from escaped (byte ∷ rest)) w.if-not-escaped.true w.if-byte-eq92.true) in
          ap₂ (λ bytes escaped. before bytes (text_from escaped rest)) (ap (λ b. b.items) w.bytes-is) w.escaped-is ∙ ap (before c.loop-byte.bytes.items) passed ∙ c.loop-byte.invariant
      | else-not-escaped+in_ok-push w ↦
          let passed : before (w.step_byte.result ∷ []) (text_from false rest) ≡ text_from c.loop-byte.escaped (drop i items) = sym (ap (text_from c.loop-byte.escaped) left ∙ w.step_byte.ensures rest) in
          let pushed : c.if-not-escaped.bytes.items ≡ c.loop-byte.bytes.items ++ (w.step_byte.result ∷ []) = cc (w.in_ok-push.ensures.items) in
          ap₂ (λ bytes escaped. before bytes (text_from escaped rest)) pushed w.escaped-is ∙ sym (before-before c.loop-byte.bytes.items (w.step_byte.result ∷ []) (text_from false rest)) ∙ ap (before c.loop-byte.bytes.items) passed ∙ c.loop-byte.invariant
    ]
