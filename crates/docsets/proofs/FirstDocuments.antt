-- The first documents that remain, one after another.
use Rattle.std.proofs.Common.{[], ◌++◌, ◌+◌, ◌<◌, ◌∙◌, ◌∷◌, ◌≡◌, ◌≤◌, List, add-one, ap, arith, drop, length, map, refl, set, suc, sym, take, zero, ℕ}
use Rattle.std.proofs.lemmas.List.{length-drop, take_more_set}
use Rattle.docsets.specs.Entries.{Entry, Rising, first}
use Rattle.docsets.proofs.EntryLaws.{none_left}

-- there is one more
pub one_more : (n : ℕ) (es : List Entry) → first (drop n es) < 2147483647 → suc n ≤ length es
one_more zero [] l = absurd (omega (arith, l))
one_more (suc n) [] l = absurd (omega (arith, l))
one_more zero (e ∷ es) l = omega arith
one_more (suc n) (e ∷ es) l = let ih = one_more n es l in omega (arith, ih)

-- and it is the next of them
pub next_document : (n : ℕ) (es : List Entry) → first (drop n es) < 2147483647 → map (λ (e : Entry). e.doc) (take (suc n) es) ≡ map (λ (e : Entry). e.doc) (take n es) ++ first (drop n es) ∷ []
next_document zero [] l = absurd (omega (arith, l))
next_document (suc n) [] l = absurd (omega (arith, l))
next_document zero (e ∷ es) l = refl
next_document (suc n) (e ∷ es) l = ap (λ ds. e.doc ∷ ds) (next_document n es l)

-- it is written behind those before
pub document_written : (n doc : ℕ) (buffer : List ℕ) (es rest : List Entry) → rest ≡ drop n es → doc ≡ first rest → doc < 2147483647 → n < length buffer → take n buffer ≡ map (λ (e : Entry). e.doc) (take n es) → take (n + 1) (set buffer n doc) ≡ map (λ (e : Entry). e.doc) (take (n + 1) es)
document_written n doc buffer es rest r d small room written =
    let at : doc ≡ first (drop n es) = d ∙ ap first r in
    let small_at : first (drop n es) < 2147483647 = omega (arith, at, small) in
    take_more_set buffer n doc room ∙ (ap (λ xs. xs ++ doc ∷ []) written ∙ (ap (λ x. map (λ (e : Entry). e.doc) (take n es) ++ x ∷ []) at ∙ (sym (next_document n es small_at) ∙ ap (λ k. map (λ (e : Entry). e.doc) (take k es)) (sym (add-one n)))))

-- at the end there are no more
pub all_given : (n : ℕ) (es rest : List Entry) → rest ≡ drop n es → Rising 0 rest → 2147483647 ≤ first rest → length es ≤ n
all_given n es rest r rises l =
    let long = length-drop n es in
    let none = ap length (sym r ∙ none_left 0 rest rises l) in
    omega (arith, long, none)
