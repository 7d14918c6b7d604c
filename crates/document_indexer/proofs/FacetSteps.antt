-- The prefixes of a facet's steps, as its text has them.
use Rattle.std.proofs.Common.{[], ◌++◌, ◌+◌, ◌<◌, ◌≡◌, ◌≢◌, ◌≤◌, ◌∙◌, ◌∷◌, Bool, List, ap, append-nil, ap₂, append_assoc, arith, cond, drop, eq-eqb, eqb, false, get_or, if◌then◌else◌, length, map, ne_eqb, refl, suc, sym, take, true, zero, ℕ}
use Rattle.std.specs.List.{onto_first, range_with_len}
use Rattle.std.proofs.Math.Seq.{drop-cons, take-suc}
use Rattle.std.proofs.lemmas.Bool.Decides.{nat_tests}
use Rattle.std.proofs.lemmas.List.{drop_all, take_all}
use Rattle.definitions.specs.Facets.{encoded}
use Rattle.definitions.specs.Schema.{facet_kind}
use Rattle.definitions.specs.Terms.{term_bytes}
use Rattle.definitions.specs.Values.{facet}
use Rattle.layouts.specs.DocumentReading.{steps_in}
use Rattle.document_indexer.specs.Steps.{Step, facet_steps, term_step}
use Rattle.document_values.proofs.Steps.{some_steps as some_part}

-- ---- by steps

-- what the first step, the first two, and so on are as text
abbrev ends : List (List ℕ) → List (List ℕ)
ends [] = []
ends (s ∷ ss) = s ∷ map (λ bs. s ++ 0 ∷ bs) (ends ss)

map_map : {X Y Z : Type 0} (f : Y → Z) (g : X → Y) (xs : List X) → map f (map g xs) ≡ map (λ x. f (g x)) xs
map_map f g [] = refl
map_map f g (x ∷ xs) = ap (λ zs. f (g x) ∷ zs) (map_map f g xs)

shifted : {X : Type 0} (f : ℕ → X) (a n : ℕ) → map f (range_with_len (a + 1) n) ≡ map (λ m. f (suc m)) (range_with_len a n)
shifted f a zero = refl
shifted f a (suc n) = ap₂ (λ x xs. x ∷ xs) (ap f (let e : a + 1 ≡ suc a = omega arith in e)) (shifted f (a + 1) n)

-- the text of the first steps, by how many
abbrev text_of : List (List ℕ) → ℕ → List ℕ
text_of steps n = encoded (take n steps)

counted : (steps : List (List ℕ)) → map (λ n. text_of steps (suc n)) (range_with_len 0 (length steps)) ≡ ends steps
counted [] = refl
counted (s ∷ []) = refl
counted (s ∷ y ∷ ys) =
    ap (λ xs. s ∷ xs)
    (shifted (λ n. text_of (s ∷ y ∷ ys) (suc n)) 0 (length (y ∷ ys))
    ∙ sym (map_map (λ bs. s ++ 0 ∷ bs) (λ n. text_of (y ∷ ys) (suc n)) (range_with_len 0 (length (y ∷ ys))))
    ∙ ap (map (λ bs. s ++ 0 ∷ bs)) (counted (y ∷ ys)))

all_counted : (steps : List (List ℕ)) → map (text_of steps) (range_with_len 0 (length steps + 1)) ≡ [] ∷ ends steps
all_counted steps =
    ap (λ n. map (text_of steps) (range_with_len 0 n)) (let e : length steps + 1 ≡ suc (length steps) = omega arith in e)
    ∙ ap (λ xs. [] ∷ xs) (shifted (text_of steps) 0 (length steps) ∙ counted steps)

-- ---- by bytes

-- what stands before each zero of the rest, and the whole
abbrev pub cuts : List ℕ → List ℕ → List (List ℕ)
cuts done [] = done ∷ []
cuts done (b ∷ rest) = if eqb b 0 then done ∷ cuts (done ++ b ∷ []) rest else cuts (done ++ b ∷ []) rest

ends_onto : (b : ℕ) (parts : List (List ℕ)) → parts ≢ [] → ends (onto_first b parts) ≡ map (λ bs. b ∷ bs) (ends parts)
ends_onto b [] some = absurd (some refl)
ends_onto b (s ∷ ss) some = ap (λ xs. (b ∷ s) ∷ xs) (sym (map_map (λ bs. b ∷ bs) (λ bs. s ++ 0 ∷ bs) (ends ss)))

ends_cuts : (done text : List ℕ) → map (λ bs. done ++ bs) (ends (steps_in text)) ≡ cuts done text
ends_cuts done [] = ap (λ bs. bs ∷ []) (append-nil done)
ends_cuts done (b ∷ rest) = go (eqb b 0) refl (ends_cuts (done ++ b ∷ []) rest)
  where
    parts : List (List ℕ)
    parts = steps_in rest

    onto : (c : ℕ) → c ≡ b → map (λ bs. done ++ (c ∷ bs)) (ends parts) ≡ map (λ bs. (done ++ b ∷ []) ++ bs) (ends parts)
    onto c is = same (ends parts)
      where
        same : (xs : List (List ℕ)) → map (λ bs. done ++ (c ∷ bs)) xs ≡ map (λ bs. (done ++ b ∷ []) ++ bs) xs
        same [] = refl
        same (x ∷ xs) = ap₂ (λ y ys. y ∷ ys) (ap (λ d. done ++ (d ∷ x)) is ∙ sym (append_assoc done (b ∷ []) x)) (same xs)

    go : (c : Bool) → eqb b 0 ≡ c → map (λ bs. (done ++ b ∷ []) ++ bs) (ends parts) ≡ cuts (done ++ b ∷ []) rest
        → map (λ bs. done ++ bs) (ends (cond c ([] ∷ parts) (onto_first b parts))) ≡ (if c then done ∷ cuts (done ++ b ∷ []) rest else cuts (done ++ b ∷ []) rest)
    go true none ih =
        let is : 0 ≡ b = grind (arith, nat_tests) in
        ap₂ (λ x xs. x ∷ xs) (append-nil done) (map_map (λ bs. done ++ bs) (λ bs. 0 ∷ bs) (ends parts) ∙ onto 0 is ∙ ih)
    go false other ih = ap (map (λ bs. done ++ bs)) (ends_onto b parts (some_part rest)) ∙ map_map (λ bs. done ++ bs) (λ bs. b ∷ bs) (ends parts) ∙ onto b refl ∙ ih

-- ---- the steps of indexing

-- a facet's text as a term
abbrev pub text_term : ℕ → List ℕ → Step
text_term field bs = term_step (term_bytes field facet_kind bs)

pub facet_cuts : (field : ℕ) (text : List ℕ) → facet_steps field (facet (steps_in text)) ≡ text_term field [] ∷ map (text_term field) (cuts [] text)
facet_cuts field text =
    sym (map_map (text_term field) (text_of (steps_in text)) (range_with_len 0 (length (steps_in text) + 1)))
    ∙ ap (map (text_term field)) (all_counted (steps_in text))
    ∙ ap (λ xs. text_term field [] ∷ map (text_term field) xs) (sym (same (ends (steps_in text))) ∙ ends_cuts [] text)
  where
    same : (xs : List (List ℕ)) → map (λ bs. [] ++ bs) xs ≡ xs
    same [] = refl
    same (x ∷ xs) = ap (λ ys. x ∷ ys) (same xs)

-- ---- byte after byte

-- what is left from a byte on
pub cuts_here : (bytes : List ℕ) (i : ℕ) → i < length bytes → cuts (take i bytes) (drop i bytes) ≡ (if eqb (get_or bytes i 0) 0 then take i bytes ∷ cuts (take (i + 1) bytes) (drop (i + 1) bytes) else cuts (take (i + 1) bytes) (drop (i + 1) bytes))
cuts_here bytes i inside =
    let b = get_or bytes i 0 in
    let up : suc i ≡ i + 1 = omega arith in
    let next : cuts (take i bytes ++ b ∷ []) (drop (suc i) bytes) ≡ cuts (take (i + 1) bytes) (drop (i + 1) bytes) = ap (λ ds. cuts ds (drop (suc i) bytes)) (sym (take-suc bytes i 0 inside)) ∙ ap (λ n. cuts (take n bytes) (drop n bytes)) up in
    ap (cuts (take i bytes)) (drop-cons bytes i 0 inside) ∙ ap (λ more. if eqb b 0 then take i bytes ∷ more else more) next

-- where a zero stands
pub cuts_zero : (field : ℕ) (bytes : List ℕ) (i : ℕ) → i < length bytes → get_or bytes i 0 ≡ 0 → map (text_term field) (cuts (take i bytes) (drop i bytes)) ≡ (text_term field (take i bytes) ∷ []) ++ map (text_term field) (cuts (take (i + 1) bytes) (drop (i + 1) bytes))
cuts_zero field bytes i inside is = ap (map (text_term field)) (cuts_here bytes i inside ∙ ap (λ b. if b then take i bytes ∷ cuts (take (i + 1) bytes) (drop (i + 1) bytes) else cuts (take (i + 1) bytes) (drop (i + 1) bytes)) (eq-eqb (get_or bytes i 0) 0 is))

-- where none does
pub cuts_other : (field : ℕ) (bytes : List ℕ) (i : ℕ) → i < length bytes → get_or bytes i 0 ≢ 0 → map (text_term field) (cuts (take i bytes) (drop i bytes)) ≡ map (text_term field) (cuts (take (i + 1) bytes) (drop (i + 1) bytes))
cuts_other field bytes i inside other = ap (map (text_term field)) (cuts_here bytes i inside ∙ ap (λ b. if b then take i bytes ∷ cuts (take (i + 1) bytes) (drop (i + 1) bytes) else cuts (take (i + 1) bytes) (drop (i + 1) bytes)) (ne_eqb (get_or bytes i 0) 0 other))

-- behind the last byte
pub cuts_end : (field : ℕ) (bytes : List ℕ) (i : ℕ) → length bytes ≤ i → map (text_term field) (cuts (take i bytes) (drop i bytes)) ≡ (text_term field bytes ∷ []) ++ []
cuts_end field bytes i past = ap₂ (λ ds rest. map (text_term field) (cuts ds rest)) (take_all i bytes past) (drop_all i bytes past)
