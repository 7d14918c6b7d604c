-- Sums of strict deltas are the documents.
use Rattle.std.proofs.Common.{ℕ, zero, suc, List, [], ◌∷◌, ◌≡◌, ◌<◌, ◌+◌, ◌-◌, ◌*◌, ◌%◌, ◌^◌, refl, sym, ap, ap₂, ◌∙◌, arith, get_or, length, add_assoc, take, take_all, cond, false, nat_eq}
use Rattle.std.proofs.Math.Nat.{mod-add-mod, mod-eq_of_lt}
use Rattle.std.proofs.lemmas.Bool.Decides.{nat_tests}
use Rattle.std.proofs.lemmas.Grind.{same_number_lists}
use Rattle.common.proofs.DigitNumbers.{AreDigits}
use Rattle.codes.proofs.BlockPackings.{digits-take, field_taken, packed_are_fields}
use Rattle.codes.specs.BlockFields.{document, field, next_after}
use Rattle.layouts.specs.Deltas.{IsAscendingFrom, deltas, documents, next_of}
use Rattle.layouts.specs.PackedBlocks.{IsPacked}
use lib.Lanes.{number_l}

-- a step of code, as far as 32 bits hold it
pub document_next : (least n delta : ℕ) → least ≡ n % 2 ^ 32 → (least + delta) % 2 ^ 32 ≡ (n + delta) % 2 ^ 32
document_next least n delta is = ap (λ m. (m + delta) % 2 ^ 32) is ∙ mod-add-mod n (2 ^ 32) delta

pub least_next : (least n delta : ℕ) → least ≡ n % 2 ^ 32 → ((least + delta) % 2 ^ 32 + 1) % 2 ^ 32 ≡ (n + delta + 1) % 2 ^ 32
least_next least n delta is = mod-add-mod (least + delta) (2 ^ 32) 1 ∙ ap (λ m. m % 2 ^ 32) (add_assoc least delta 1) ∙ document_next least n (delta + 1) is ∙ ap (λ m. m % 2 ^ 32) (sym (add_assoc n delta 1))

next_after_same : (next i : ℕ) (f g : ℕ → ℕ) → ((k : ℕ) → k < i → f k ≡ g k) → next_after next f i ≡ next_after next g i
next_after_same next zero f g same = refl
next_after_same next (suc i) f g same = (let before = next_after_same next i f g (λ k within. same k (omega arith)) in let here = same i (omega arith) in ap₂ (λ n d. n + d + 1) before here)

next_after_from : (next i : ℕ) (f : ℕ → ℕ) → next_after next f i ≡ next + next_after 0 f i
next_after_from next zero f = omega arith
next_after_from next (suc i) f = omega (arith, next_after_from next i f)

next_after_shift : (next i : ℕ) (f : ℕ → ℕ) → next_after next f (suc i) ≡ next_after (next + f 0 + 1) (λ k. f (suc k)) i
next_after_shift next zero f = refl
next_after_shift next (suc i) f = ap (λ n. n + f (suc i) + 1) (next_after_shift next i f)

pub length-deltas : (next : ℕ) (docs : List ℕ) → length (deltas next docs) ≡ length docs
length-deltas next [] = refl
length-deltas next (doc ∷ docs) = ap suc (length-deltas (doc + 1) docs)

document_of_deltas : (next : ℕ) (docs : List ℕ) (i : ℕ) → IsAscendingFrom next docs → i < length docs → next_after next (λ k. get_or (deltas next docs) k 0) i + get_or (deltas next docs) i 0 ≡ get_or docs i 0
document_of_deltas next [] i ascending within = absurd (omega arith)
document_of_deltas next (doc ∷ docs) zero ascending within = omega (arith, ascending.0)
document_of_deltas next (doc ∷ docs) (suc i) ascending within =
    let first : next + (doc - next) + 1 ≡ doc + 1 = omega (arith, ascending.0) in
    ap (λ n. n + get_or (deltas (doc + 1) docs) i 0) (next_after_shift next i (λ k. get_or (deltas next (doc ∷ docs)) k 0) ∙ ap (λ n. next_after n (λ k. get_or (deltas (doc + 1) docs) k 0) i) first)
    ∙ document_of_deltas (doc + 1) docs i ascending.1 (omega arith)

document_told : (offset next w : ℕ) (docs bytes out : List ℕ) → AreDigits 256 bytes → IsAscendingFrom (next_of offset) docs → ((i : ℕ) → get_or docs i 0 < 2 ^ 32) → IsPacked w (deltas (next_of offset) docs) bytes → next ≡ next_of offset % 2 ^ 32 → ((i : ℕ) → i < 128 → get_or out i 0 ≡ document next (field w (number_l 256 bytes)) i) → (i : ℕ) → i < 128 → i < length docs → get_or out i 0 ≡ get_or docs i 0
document_told offset next w docs bytes out digits ascending small packed wrapped told i within inside =
    let delta : ℕ → ℕ = λ k. get_or (deltas (next_of offset) docs) k 0 in
    let fields : (k : ℕ) → k < 128 → field w (number_l 256 bytes) k ≡ delta k = λ k few. sym (packed_are_fields w (deltas (next_of offset) docs) bytes digits packed k few) in
    told i within
    ∙ ap₂ (λ n d. (n + d) % 2 ^ 32) (next_after_same next i (field w (number_l 256 bytes)) delta (λ k few. fields k (omega arith)) ∙ next_after_from next i delta ∙ ap (λ n. n + next_after 0 delta i) wrapped) (fields i within)
    ∙ ap (λ m. m % 2 ^ 32) (add_assoc (next_of offset % 2 ^ 32) (next_after 0 delta i) (delta i))
    ∙ mod-add-mod (next_of offset) (2 ^ 32) (next_after 0 delta i + delta i)
    ∙ ap (λ m. m % 2 ^ 32) (sym (add_assoc (next_of offset) (next_after 0 delta i) (delta i)) ∙ ap (λ n. n + delta i) (sym (next_after_from (next_of offset) i delta)) ∙ document_of_deltas (next_of offset) docs i ascending inside)
    ∙ mod-eq_of_lt (small i)

-- the documents that code sums are those of the block
pub documents_told : (offset next w : ℕ) (docs bytes out : List ℕ) → AreDigits 256 bytes → IsAscendingFrom (next_of offset) docs → ((i : ℕ) → get_or docs i 0 < 2 ^ 32) → IsPacked w (deltas (next_of offset) docs) bytes → next ≡ next_of offset % 2 ^ 32 → length out ≡ 128 → ((i : ℕ) → i < 128 → get_or out i 0 ≡ document next (field w (number_l 256 bytes)) i) → out ≡ docs
documents_told offset next w docs bytes out digits ascending small packed wrapped long told =
    let count : length docs ≡ 128 = sym (length-deltas (next_of offset) docs) ∙ packed.count in
    same_number_lists out docs (long ∙ sym count) (λ i within. document_told offset next w docs bytes out digits ascending small packed wrapped told i (omega (arith, long)) (omega (arith, long, count)))

-- what follows the block doesn't change its documents
pub document_taken : (next w : ℕ) (bytes : List ℕ) → AreDigits 256 bytes → (i : ℕ) → i < 128 → document next (field w (number_l 256 (take (16 * w) bytes))) i ≡ document next (field w (number_l 256 bytes)) i
document_taken next w bytes digits i within = ap₂ (λ n d. (n + d) % 2 ^ 32) (next_after_same next i (field w (number_l 256 (take (16 * w) bytes))) (field w (number_l 256 bytes)) (λ k few. field_taken w bytes digits k (omega arith))) (field_taken w bytes digits i within)

-- likewise of the bytes that a block begins
pub documents_read : (offset next w : ℕ) (docs bytes out : List ℕ) → AreDigits 256 bytes → IsAscendingFrom (next_of offset) docs → ((i : ℕ) → get_or docs i 0 < 2 ^ 32) → IsPacked w (deltas (next_of offset) docs) (take (16 * w) bytes) → next ≡ next_of offset % 2 ^ 32 → length out ≡ 128 → ((i : ℕ) → i < 128 → get_or out i 0 ≡ document next (field w (number_l 256 (take (16 * w) bytes))) i) → take 128 out ≡ docs
documents_read offset next w docs bytes out digits ascending small packed wrapped long told = take_all 128 out (omega (arith, long)) ∙ documents_told offset next w docs (take (16 * w) bytes) out (digits-take 256 (16 * w) bytes digits) ascending small packed wrapped long told

-- ---- deltas and documents turn into one another

pub documents-deltas : (next : ℕ) (docs : List ℕ) → IsAscendingFrom next docs → documents next (deltas next docs) ≡ docs
documents-deltas next [] ascending = refl
documents-deltas next (doc ∷ docs) ascending =
    let here : next + (doc - next) ≡ doc = omega (arith, ascending.0) in
    ap₂ (λ d ds. d ∷ ds) here (ap (λ n. documents (n + 1) (deltas (doc + 1) docs)) here ∙ documents-deltas (doc + 1) docs ascending.1)

pub deltas-documents : (next : ℕ) (xs : List ℕ) → deltas next (documents next xs) ≡ xs
deltas-documents next [] = refl
deltas-documents next (x ∷ xs) = (let here : next + x - next ≡ x = omega arith in ap₂ (λ d ds. d ∷ ds) here (deltas-documents (next + x + 1) xs))

pub ascending-documents : (next : ℕ) (xs : List ℕ) → IsAscendingFrom next (documents next xs)
ascending-documents next [] = tt
ascending-documents next (x ∷ xs) = (omega arith, ascending-documents (next + x + 1) xs)

pub one_documents : (next : ℕ) (a b : List ℕ) → IsAscendingFrom next a → IsAscendingFrom next b → deltas next a ≡ deltas next b → a ≡ b
one_documents next a b p q same = sym (documents-deltas next a p) ∙ ap (λ ds. documents next ds) same ∙ documents-deltas next b q

-- the least document behind one
pub next_of_some : (doc : ℕ) → 0 < doc → next_of doc ≡ doc + 1
next_of_some doc some = (let no : nat_eq doc 0 ≡ false = grind (arith, nat_tests) in ap (λ b. cond b 0 (doc + 1)) no)
