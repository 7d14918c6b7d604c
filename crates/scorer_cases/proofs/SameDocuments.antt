-- Lists of entries with the same documents.
use Rattle.std.proofs.Common.{[], List, ap, ap₂, arith, drop, sym, ◌<◌, ◌∙◌, ◌∷◌, ◌≡◌, ◌≤◌}
use Rattle.definitions.specs.Postings.{terminated}
use Rattle.docsets.specs.Entries.{Entry, Rising, first}
use Rattle.docsets.proofs.EntryLaws.{none_left}
use Rattle.scorers.specs.Documents.{documents}

-- where the first is the same, and what follows
pub same-before : (es fs gs hs : List Entry) → first es < terminated → first fs ≡ first es → gs ≡ drop 1 es → hs ≡ drop 1 fs → documents gs ≡ documents hs → documents es ≡ documents fs
same-before [] fs gs hs on at left right same = absurd (omega (arith, on))
same-before (e ∷ es) [] gs hs on at left right same = absurd (omega (arith, on, at))
same-before (e ∷ es) (f ∷ fs) gs hs on at left right same = ap₂ (λ d ds. d ∷ ds) (sym at) (sym (ap documents left) ∙ (same ∙ ap documents right))

-- where both are at their end
pub same-ended : (es fs : List Entry) → Rising 0 es → Rising 0 fs → terminated ≤ first es → terminated ≤ first fs → documents es ≡ documents fs
same-ended es fs rises others end ended = ap documents (none_left 0 es rises end) ∙ sym (ap documents (none_left 0 fs others ended))
