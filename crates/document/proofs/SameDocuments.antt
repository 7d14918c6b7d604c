-- Documents with the same bytes have the same pairs.
use Rattle.std.proofs.Common.{[], ◌∷◌, ◌≡◌, ◌∙◌, ◌↔◌, IsTrue, List, ap, ap₂, length, refl, sym, true, ℕ}
use Rattle.std.proofs.lemmas.Slice.Eq.{bytes_eq-Decides}
use Rattle.std.specs.List.{AllByRecursion}
use Rattle.definitions.specs.Values.{Document}
use Rattle.document_values.specs.Docs.{HoldsPairs, IsGoodPair, IsHeap, held_document, pairs_at, same_document}
use Rattle.document_values.specs.Held.{held_pairs}
use Rattle.layouts.specs.DocumentReading.{deepest}
use Rattle.document.proofs.HeldPairs.{pairs_held}

holds_itself : (doc : Document) → AllByRecursion (IsGoodPair true deepest) doc → HoldsPairs (held_pairs doc) (length doc) doc
holds_itself doc good = record { pairs = good; count = refl; spelled = refl }

-- a list with a first element
abbrev pub first_of : List ℕ → ℕ
first_of [] = 0
first_of (n ∷ ns) = n

abbrev others_of : List ℕ → List ℕ
others_of [] = []
others_of (n ∷ ns) = ns

pub same_pairs : (a b : Document) → AllByRecursion (IsGoodPair true deepest) a → AllByRecursion (IsGoodPair true deepest) b → held_document a ≡ held_document b → a ≡ b
same_pairs a b good_a good_b e =
    sym (pairs_held (held_pairs a) (length a) a (holds_itself a good_a))
    ∙ ap₂ (λ n bs. pairs_at n bs) (ap first_of e) (ap others_of e)
    ∙ pairs_held (held_pairs b) (length b) b (holds_itself b good_b)

-- the bytes that hold a document are those of what is seen of it
pub heap_spelled : (bs : List ℕ) (n : ℕ) (doc : Document) → IsHeap bs n → pairs_at n bs ≡ doc → n ∷ bs ≡ held_document doc
heap_spelled bs n doc heap seen =
    let same : heap.0 ≡ doc = sym (pairs_held bs n heap.0 heap.1) ∙ seen in
    ap₂ (λ m ys. m ∷ ys) heap.1.count heap.1.spelled ∙ ap held_document same

pub same_decides : (a b : Document) → AllByRecursion (IsGoodPair true deepest) a → AllByRecursion (IsGoodPair true deepest) b → IsTrue (same_document a b) ↔ (a ≡ b)
same_decides a b good_a good_b =
    let d = bytes_eq-Decides (held_document a) (held_document b) in
    (λ h. same_pairs a b good_a good_b (d.0 h), λ e. d.1 (ap held_document e))
