-- A stable sort by offsets is the order of the definitions.
use Rattle.std.proofs.Common.{[], ⊎_elim, ◌+◌, ◌<◌, ◌∙◌, ◌∷◌, ◌≡◌, ◌≤◌, Bool, IsSortedBy, List, ap, arith, cond, false, filter, le_refl, le_trans, leb-false, leb-true, length, ltb-false, take, ◌-◌, nat_le, nat_lt, refl, ◌==◌, suc, sym, true, ℕ}
use Rattle.std.proofs.lemmas.Bool.{eqb-true}
use Rattle.std.specs.List.{AllByRecursion, enumerate_from, list_all}
use Rattle.std.specs.List.Sorted.{IsStableBy, ties}
use Rattle.std.specs.Bool.{⊤}
use Rattle.std.specs.Option.{option_map_or}
use Rattle.std.proofs.lemmas.Bool.Decides.{nat_tests}
use Rattle.std.proofs.lemmas.Bool.{cases_lt}
use Rattle.definitions.proofs.Lists.{both_true as both_parts}
use Rattle.definitions.specs.Phrases.{by_offset, insert_by_offset, last_and_rest, whole_terms}
use Rattle.definitions.specs.Query.{Terms}
use Rattle.definitions.specs.Scoring.{phrase_field}
use Rattle.definitions.specs.Terms.{field_of}
use Rattle.query_trees.specs.PhraseTerms.{ArePhraseTerms, AreSortedTerms, are_phrase_terms}

abbrev OffsetTerm : Type 0
OffsetTerm = ℕ × List ℕ

-- the comparison of a sort by offsets
abbrev pub stands_first : OffsetTerm → OffsetTerm → Bool
stands_first a b = nat_lt a.0 b.0

-- no offset is above one after it
abbrev pub NeverFalls : Terms → Type 0
NeverFalls [] = ⊤
NeverFalls (t ∷ ts) = AllByRecursion (λ u. t.0 ≤ u.0) ts × NeverFalls ts

-- ---- the definitions' order

all_above : (n m : ℕ) → n ≤ m → (ts : Terms) → AllByRecursion (λ u. m ≤ u.0) ts → AllByRecursion (λ u. n ≤ u.0) ts
all_above n m l [] h = tt
all_above n m l (t ∷ ts) h = (le_trans l h.0, all_above n m l ts h.1)

-- what holds of a term and of others holds of all when it is put among them
pub all_inserted : (P : OffsetTerm → Type 0) (t : OffsetTerm) (ts : Terms) → P t → AllByRecursion P ts → AllByRecursion P (insert_by_offset t ts)
all_inserted P t [] p h = (p, tt)
all_inserted P t (u ∷ us) p h = go (nat_le t.0 u.0) (all_inserted P t us p h.1)
  where
    go : (b : Bool) → AllByRecursion P (insert_by_offset t us) → AllByRecursion P (cond b (t ∷ u ∷ us) (u ∷ insert_by_offset t us))
    go true rest = (p, h)
    go false rest = (h.0, rest)

pub all_by_offset : (P : OffsetTerm → Type 0) (ts : Terms) → AllByRecursion P ts → AllByRecursion P (by_offset ts)
all_by_offset P [] h = tt
all_by_offset P (t ∷ ts) h = all_inserted P t (by_offset ts) h.0 (all_by_offset P ts h.1)

inserted_rises : (t : OffsetTerm) (ts : Terms) → NeverFalls ts → NeverFalls (insert_by_offset t ts)
inserted_rises t [] h = (tt, tt)
inserted_rises t (u ∷ us) h =
    (elim (nat_le t.0 u.0) as (λ b. nat_le t.0 u.0 ≡ b → NeverFalls (cond b (t ∷ u ∷ us) (u ∷ insert_by_offset t us))) [
      | true ↦ (λ e. let l = leb-true t.0 u.0 e in ((l, all_above t.0 u.0 l us h.0), h))
      | false ↦ (λ e. let l = leb-false t.0 u.0 e in let m : u.0 ≤ t.0 = omega arith in (all_inserted (λ v. u.0 ≤ v.0) t us m h.0, inserted_rises t us h.1))
    ]) refl

pub by_offset_rises : (ts : Terms) → NeverFalls (by_offset ts)
by_offset_rises [] = tt
by_offset_rises (t ∷ ts) = inserted_rises t (by_offset ts) (by_offset_rises ts)

-- ---- elements of one offset

ties-same : (x y : OffsetTerm) → x.0 ≡ y.0 → ties stands_first x y ≡ true
ties-same x y e = grind (arith, nat_tests)

ties-key : (x y : OffsetTerm) → ties stands_first x y ≡ true → x.0 ≡ y.0
ties-key x y e = grind (arith, nat_tests)

ties-greater : (x y : OffsetTerm) → x.0 < y.0 → ties stands_first x y ≡ false
ties-greater x y l = grind (arith, nat_tests)

-- of two elements of which at most one is kept, the order doesn't matter
kept_either_way : (b c : Bool) (x y : OffsetTerm) (zs : Terms) → (b ≡ true → c ≡ true → ⊥) → cond c (y ∷ cond b (x ∷ zs) zs) (cond b (x ∷ zs) zs) ≡ cond b (x ∷ cond c (y ∷ zs) zs) (cond c (y ∷ zs) zs)
kept_either_way true true x y zs h = absurd (h refl refl)
kept_either_way true false x y zs h = refl
kept_either_way false c x y zs h = refl

-- a term put in order leaves each list of terms of one offset as it was
filter-inserted : (p : OffsetTerm → Bool) → ((x y : OffsetTerm) → p x ≡ true → p y ≡ true → x.0 ≡ y.0) → (x : OffsetTerm) (ys : Terms) → filter p (insert_by_offset x ys) ≡ filter p (x ∷ ys)
filter-inserted p one x [] = refl
filter-inserted p one x (y ∷ ys) =
    let ih = filter-inserted p one x ys in
    (elim (nat_le x.0 y.0) as (λ b. nat_le x.0 y.0 ≡ b → filter p (cond b (x ∷ y ∷ ys) (y ∷ insert_by_offset x ys)) ≡ filter p (x ∷ y ∷ ys)) [
      | true ↦ (λ e. refl)
      | false ↦ (λ e. let l = leb-false x.0 y.0 e in rw ih (kept_either_way (p x) (p y) x y (filter p ys) (λ a b. let same = one x y a b in absurd (omega arith))))
    ]) refl

filter-by_offset : (p : OffsetTerm → Bool) → ((x y : OffsetTerm) → p x ≡ true → p y ≡ true → x.0 ≡ y.0) → (xs : Terms) → filter p (by_offset xs) ≡ filter p xs
filter-by_offset p one [] = refl
filter-by_offset p one (x ∷ xs) = filter-inserted p one x (by_offset xs) ∙ ap (λ zs. cond (p x) (x ∷ zs) zs) (filter-by_offset p one xs)

-- ---- lists that rise, with the same elements of each offset

no_ties : (x : OffsetTerm) (n : ℕ) → x.0 < n → (ys : Terms) → AllByRecursion (λ y. n ≤ y.0) ys → filter (ties stands_first x) ys ≡ []
no_ties x n l [] h = refl
no_ties x n l (y ∷ ys) h = let high = h.0 in rw (ties-greater x y (omega arith)) (no_ties x n l ys h.1)

cons-not-nil : (y : OffsetTerm) (ys : Terms) → y ∷ ys ≡ [] → ⊥
cons-not-nil y ys e = cc

-- where something ties with x, the first of rising offsets is at most that of x
first_offset : (x y z : OffsetTerm) (rest zs : Terms) → NeverFalls (z ∷ zs) → y ∷ rest ≡ filter (ties stands_first x) (z ∷ zs) → z.0 ≤ x.0
first_offset x y z rest zs h e = ⊎_elim (λ l. absurd (cons-not-nil y rest (e ∙ no_ties x z.0 l (z ∷ zs) (le_refl z.0, h.0)))) (λ l. l) (cases_lt x.0 z.0)

cons-parts : (y z : OffsetTerm) (ys zs : Terms) → y ∷ ys ≡ z ∷ zs → (y ≡ z) × (ys ≡ zs)
cons-parts y z ys zs e = (cc, cc)

same_rests : (b : Bool) (y : OffsetTerm) (ys zs : Terms) → cond b (y ∷ ys) ys ≡ cond b (y ∷ zs) zs → ys ≡ zs
same_rests true y ys zs e = (cons-parts y y ys zs e).1
same_rests false y ys zs e = e

filter-first : (x y : OffsetTerm) (ys : Terms) → x.0 ≡ y.0 → filter (ties stands_first x) (y ∷ ys) ≡ y ∷ filter (ties stands_first x) ys
filter-first x y ys e = rw (ties-same x y e)

-- two lists along which offsets never fall, with the same elements of each offset in the same order, are one
same_from_ties : (ys zs : Terms) → NeverFalls ys → NeverFalls zs → ((x : OffsetTerm) → filter (ties stands_first x) ys ≡ filter (ties stands_first x) zs) → ys ≡ zs
same_from_ties [] [] h k same = refl
same_from_ties [] (z ∷ zs) h k same = absurd (cons-not-nil z _ (sym (filter-first z z zs refl) ∙ sym (same z)))
same_from_ties (y ∷ ys) [] h k same = absurd (cons-not-nil y _ (sym (filter-first y y ys refl) ∙ same y))
same_from_ties (y ∷ ys) (z ∷ zs) h k same =
    let at : Terms → OffsetTerm → Terms = λ ws x. filter (ties stands_first x) ws in
    let up : z.0 ≤ y.0 = first_offset y y z (at ys y) zs k (sym (filter-first y y ys refl) ∙ same y) in
    let down : y.0 ≤ z.0 = first_offset z z y (at zs z) ys h (sym (filter-first z z zs refl) ∙ sym (same z)) in
    let one : y ≡ z = (cons-parts y z (at ys y) (at zs y) (sym (filter-first y y ys refl) ∙ (same y ∙ filter-first y z zs (omega arith)))).0 in
    let rests : (x : OffsetTerm) → at ys x ≡ at zs x = λ x. same_rests (ties stands_first x y) y (at ys x) (at zs x) (same x ∙ ap (λ w. cond (ties stands_first x w) (w ∷ at zs x) (at zs x)) (sym one)) in
    let rest : ys ≡ zs = same_from_ties ys zs h.1 k.1 rests in
    cc

-- ---- what a sort leaves

sorted-rest : (x : OffsetTerm) (xs : Terms) → IsSortedBy stands_first (x ∷ xs) → IsSortedBy stands_first xs
sorted-rest x xs h k d low within = let e : suc k + 1 ≡ suc (k + 1) = omega arith in rw e at (h (suc k) d (omega arith) (omega arith))

NeverFalls-sorted : (xs : Terms) → IsSortedBy stands_first xs → NeverFalls xs
NeverFalls-sorted [] h = tt
NeverFalls-sorted (x ∷ []) h = (tt, tt)
NeverFalls-sorted (x ∷ y ∷ ys) h =
    let rest = NeverFalls-sorted (y ∷ ys) (sorted-rest x (y ∷ ys) h) in
    let l : x.0 ≤ y.0 = ltb-false y.0 x.0 (h 0 x (omega arith) (omega arith)) in
    ((l, all_above x.0 y.0 l ys rest.0), rest)

-- a stable sort by offsets is the order of the definitions
pub sorted_by_offset : (xs ys : Terms) → IsSortedBy stands_first ys → IsStableBy stands_first xs ys → ys ≡ by_offset xs
sorted_by_offset xs ys sorted stable = same_from_ties ys (by_offset xs) (NeverFalls-sorted ys sorted) (by_offset_rises xs) (λ x. stable x ∙ sym (filter-by_offset (ties stands_first x) (λ y z a b. sym (ties-key x y a) ∙ ties-key x z b) xs))

-- ---- lists that are in order stay as they are

inserted_first : (t : OffsetTerm) (ts : Terms) → AllByRecursion (λ u. t.0 ≤ u.0) ts → insert_by_offset t ts ≡ t ∷ ts
inserted_first t [] h = refl
inserted_first t (u ∷ us) h = ap (λ b. cond b (t ∷ u ∷ us) (u ∷ insert_by_offset t us)) (le-leb t.0 u.0 h.0)
  where
    le-leb : (n m : ℕ) → n ≤ m → nat_le n m ≡ true
    le-leb n m l = grind (arith, nat_tests)

pub by_offset_kept : (ts : Terms) → NeverFalls ts → by_offset ts ≡ ts
by_offset_kept [] h = refl
by_offset_kept (t ∷ ts) h = ap (insert_by_offset t) (by_offset_kept ts h.1) ∙ inserted_first t ts h.0

-- ---- terms of phrases

length-inserted : (t : OffsetTerm) (ts : Terms) → length (insert_by_offset t ts) ≡ suc (length ts)
length-inserted t [] = refl
length-inserted t (u ∷ us) = go (nat_le t.0 u.0) (length-inserted t us)
  where
    go : (b : Bool) → length (insert_by_offset t us) ≡ suc (length us) → length (cond b (t ∷ u ∷ us) (u ∷ insert_by_offset t us)) ≡ suc (suc (length us))
    go true rest = refl
    go false rest = ap suc rest

pub length-by_offset : (ts : Terms) → length (by_offset ts) ≡ length ts
length-by_offset [] = refl
length-by_offset (t ∷ ts) = length-inserted t (by_offset ts) ∙ ap suc (length-by_offset ts)

-- what all share is the field of the first
shared : (field : ℕ) (ts : Terms) → AllByRecursion (λ t. field_of t.1 ≡ field) ts → AllByRecursion (λ t. field_of t.1 ≡ phrase_field ts) ts
shared field [] h = tt
shared field (t ∷ ts) h = (refl, go ts h.1)
  where
    go : (us : Terms) → AllByRecursion (λ u. field_of u.1 ≡ field) us → AllByRecursion (λ u. field_of u.1 ≡ field_of t.1) us
    go [] k = tt
    go (u ∷ us) k = (k.0 ∙ sym h.0, go us k.1)

-- terms of a phrase, in the order of their offsets
pub sorted_terms : (least : ℕ) (ts : Terms) → ArePhraseTerms least ts → AreSortedTerms least (by_offset ts)
sorted_terms least ts h = record {
  phrase = record {
    enough = let e = length-by_offset ts in let l = h.enough in omega arith;
    one_field = shared (phrase_field ts) (by_offset ts) (all_by_offset (λ t. field_of t.1 ≡ phrase_field ts) ts h.one_field);
  };
  sorted = by_offset_kept (by_offset ts) (by_offset_rises ts);
}

rows_above : (low offset : ℕ) → low ≤ offset → (ts : List (List ℕ)) → AllByRecursion (λ u. low ≤ u.0) (enumerate_from offset ts)
rows_above low offset l [] = tt
rows_above low offset l (t ∷ ts) = (l, rows_above low (offset + 1) (omega arith) ts)

rows_rise : (offset : ℕ) (ts : List (List ℕ)) → NeverFalls (enumerate_from offset ts)
rows_rise offset [] = tt
rows_rise offset (t ∷ ts) = (rows_above offset (offset + 1) (omega arith) ts, rows_rise (offset + 1) ts)

-- terms one after another are in that order
pub sorted_row : (least : ℕ) (ts : List (List ℕ)) → ArePhraseTerms least (enumerate_from 0 ts) → AreSortedTerms least (enumerate_from 0 ts)
sorted_row least ts h = record { phrase = h; sorted = by_offset_kept (enumerate_from 0 ts) (rows_rise 0 ts) }

-- ---- what a test of terms tells

all_told : (field : ℕ) (ts : Terms) → list_all (λ t. field_of t.1 == field) ts ≡ true → AllByRecursion (λ t. field_of t.1 ≡ field) ts
all_told field [] h = tt
all_told field (t ∷ ts) h = let parts = both_parts (field_of t.1 == field) (list_all (λ u. field_of u.1 == field) ts) h in (eqb-true (field_of t.1) field parts.0, all_told field ts parts.1)

-- terms that pass the test are those of a phrase
pub phrase_told : (least : ℕ) (ts : Terms) → are_phrase_terms least ts ≡ true → ArePhraseTerms least ts
phrase_told least ts h =
    let parts = both_parts (nat_le least (length ts)) (list_all (λ t. field_of t.1 == phrase_field ts) ts) h in
    record { enough = leb-true least (length ts) parts.0; one_field = all_told (phrase_field ts) ts parts.1 }

-- ---- the last term

-- all but the last are the first ones
pub whole_first : (ts : Terms) → by_offset ts ≡ ts → take (length ts - 1) ts ≡ whole_terms ts
whole_first ts same = go ts ∙ sym (ap (λ us. option_map_or (λ p. p.1) (last_and_rest us) []) same)
  where
    next : (t u : OffsetTerm) (us : Terms) → option_map_or (λ p. p.1) (last_and_rest (t ∷ u ∷ us)) [] ≡ t ∷ option_map_or (λ p. p.1) (last_and_rest (u ∷ us)) []
    next t u us = refl

    go : (ts : Terms) → take (length ts - 1) ts ≡ option_map_or (λ p. p.1) (last_and_rest ts) []
    go [] = refl
    go (t ∷ []) = refl
    go (t ∷ u ∷ us) = let e : length (t ∷ u ∷ us) - 1 ≡ suc (length (u ∷ us) - 1) = omega arith in ap (λ n. take n (t ∷ u ∷ us)) e ∙ ap (λ ws. t ∷ ws) (go (u ∷ us)) ∙ sym (next t u us)
