-- A field's terms, put into the order of their value bytes.
use Rattle.std.proofs.Common.{[], ◌||◌, add-one, ◌<◌, ◌≡◌, ◌∙◌, ◌∷◌, Bool, IsSome, List, Some, Vec, ap, arith, bytes_eq, cond, false, get_or, length, map, refl, subst, suc, sym, true, ℕ}
use Rattle.std.specs.Cmp.Lexicographic.{slice_cmp}
use Rattle.std.specs.List.{All, AllByRecursion, IsDistinct, list_any}
use Rattle.std.specs.List.Sorted.{IsPermutation, IsSortedByKey}
use Rattle.std.specs.Map.{keys_of, lookup}
use Rattle.std.specs.Ordering.{is_eq, is_lt, nat_cmp}
use Rattle.std.specs.declared.alloc.Global.{Global}
use Rattle.std.specs.declared.cmp.Ordering.{Ordering}
use Rattle.std.specs.declared.cmp.Ordering.TheVariants.{Equal, Greater, Less}
use Rattle.std.proofs.lemmas.Cmp.{nat_list_cmp_total, nat_list_eq_equiv}
use Rattle.std.proofs.lemmas.List.Elements.{recursion_from_All}
use Rattle.std.proofs.lemmas.List.Sorted.{All-permutation, IsPermutation-map, list_any-IsPermutation}
use Rattle.std.proofs.lemmas.Map.Entries.{lookup_from_place}
use Rattle.std.proofs.lemmas.Map.Keys.{IsDistinct-IsPermutation, IsDistinct-cons, IsDistinct-head, IsDistinct-tail}
use Rattle.std.proofs.lemmas.Map.Text.{is_eq-slice_cmp}
use Rattle.std.proofs.lemmas.Option.{slice_get-get_or}
use Rattle.layouts.specs.TermSections.{TermsAscend}

-- keys that aren't one have different bytes
pub distinct_items : {X : Type 0} (es : List (Vec ℕ Global × X)) → IsDistinct (λ x y. bytes_eq x.items y.items) (keys_of es) → IsDistinct bytes_eq (keys_of (map (λ e. (e.0.items, e.1)) es))
unfolding IsDistinct
distinct_items [] apart = tt
distinct_items {X} (e ∷ es) apart =
    IsDistinct-cons bytes_eq e.0.items (keys_of (map (λ x. (x.0.items, x.1)) es))
    (go es (IsDistinct-head (λ x y. bytes_eq x.items y.items) e.0 (keys_of es) apart))
    (distinct_items es (IsDistinct-tail (λ x y. bytes_eq x.items y.items) e.0 (keys_of es) apart))
  where
    go : (fs : List (Vec ℕ Global × X)) → AllByRecursion (λ y. bytes_eq e.0.items y.items ≡ false) (keys_of fs) → AllByRecursion (λ y. bytes_eq e.0.items y ≡ false) (keys_of (map (λ x. (x.0.items, x.1)) fs))
    go [] all = tt
    go (f ∷ fs) all = (all.0, go fs all.1)

-- ---- in order

abbrev cmp : List ℕ → List ℕ → Ordering
cmp = slice_cmp nat_cmp

-- what isn't below a key and isn't the key is above it
below : (s t : List ℕ) → is_lt (cmp t s) ≡ false → bytes_eq s t ≡ false → cmp s t ≡ Less
below s t not_below apart = go (cmp t s) refl
  where
    back : cmp s t ≡ Rattle.std.specs.Ordering.ordering_reverse (cmp t s)
    back = nat_list_cmp_total.antisymm s t

    go : (o : Ordering) → cmp t s ≡ o → cmp s t ≡ Less
    go Less e = cc
    go Equal e = (let same : is_eq (cmp s t) ≡ true = ap is_eq (back ∙ ap Rattle.std.specs.Ordering.ordering_reverse e) in let other = is_eq-slice_cmp s t in cc)
    go Greater e = back ∙ ap Rattle.std.specs.Ordering.ordering_reverse e

-- keys in order, no two of which are one, ascend
ascend_from : {X : Type 0} (key : X → List ℕ) (xs : List X) → ((k : ℕ) (d : X) → suc k < length xs → is_lt (cmp (key (get_or xs (suc k) d)) (key (get_or xs k d))) ≡ false) → IsDistinct bytes_eq (map key xs) → TermsAscend (map key xs)
ascend_from key [] sorted apart = tt
ascend_from key (x ∷ []) sorted apart = tt
ascend_from key (x ∷ y ∷ xs) sorted apart = (
  below (key x) (key y) (sorted 0 x (omega arith)) (IsDistinct-head bytes_eq (key x) (map key (y ∷ xs)) apart).0,
  ascend_from key (y ∷ xs) (λ k d inside. sorted (suc k) d (omega arith)) (IsDistinct-tail bytes_eq (key x) (map key (y ∷ xs)) apart),
)

pub keys_ascend : {X : Type 0} (key : X → List ℕ) (xs : List X) → IsSortedByKey key cmp xs → IsDistinct bytes_eq (map key xs) → TermsAscend (map key xs)
keys_ascend {X} key xs sorted apart = ascend_from key xs (λ k d inside. subst (λ j. is_lt (cmp (key (get_or xs j d)) (key (get_or xs k d))) ≡ false) (add-one k) (sorted k d (omega arith) (omega arith))) apart

-- ---- the terms of a map

-- each entry is found by its key
entries_found : {X : Type 0} (es : List (List ℕ × X)) → IsDistinct bytes_eq (keys_of es) → All (λ e. lookup (bytes_eq e.0) es ≡ Some e.1) es
entries_found es apart k d inside = lookup_from_place nat_list_eq_equiv es k (get_or es k d).0 (get_or es k d).1 apart (slice_get-get_or es k d inside)

-- a key that is found is among the keys
key_among : {X : Type 0} (es : List (List ℕ × X)) (key : List ℕ) → IsSome (lookup (bytes_eq key) es) → list_any (bytes_eq key) (keys_of es) ≡ true
key_among [] key found = cc
key_among {X} (e ∷ es) key found = go (bytes_eq key e.0) (key_among es key) found
  where
    go : (b : Bool) → (IsSome (lookup (bytes_eq key) es) → list_any (bytes_eq key) (keys_of es) ≡ true) → IsSome (cond b (Some e.1) (lookup (bytes_eq key) es)) → (b || list_any (bytes_eq key) (keys_of es)) ≡ true
    go true later f = refl
    go false later f = later f

pub keys_are : {A X : Type 0} (v : A → List ℕ × X) (xs : List A) → keys_of (map v xs) ≡ map (λ x. (v x).0) xs
keys_are v [] = refl
keys_are v (x ∷ xs) = ap (λ ks. (v x).0 ∷ ks) (keys_are v xs)

all_unmapped : {A B : Type 0} (P : B → Type 0) (v : A → B) (xs : List A) → AllByRecursion P (map v xs) → AllByRecursion (λ x. P (v x)) xs
all_unmapped P v [] all = tt
all_unmapped P v (x ∷ xs) all = (all.0, all_unmapped P v xs all.1)

module _ {A X : Type 0} (v : A → List ℕ × X) (old new : List A) (es : List (List ℕ × X)) (is : map v old ≡ es) (moved : IsPermutation old new) (apart : IsDistinct bytes_eq (keys_of es)) where
  same_terms : IsPermutation es (map v new)
  same_terms = subst (λ xs. IsPermutation xs (map v new)) is (IsPermutation-map v old new moved)

  same_keys : IsPermutation (keys_of es) (keys_of (map v new))
  same_keys = IsPermutation-map (λ (e : List ℕ × X). e.0) es (map v new) same_terms

  pub sorted_apart : IsDistinct bytes_eq (map (λ x. (v x).0) new)
  sorted_apart = subst (IsDistinct bytes_eq) (keys_are v new) (IsDistinct-IsPermutation bytes_eq nat_list_eq_equiv.symm (keys_of es) (keys_of (map v new)) same_keys apart)

  -- each is found by its key
  pub sorted_found : AllByRecursion (λ x. lookup (bytes_eq (v x).0) es ≡ Some (v x).1) new
  sorted_found = all_unmapped (λ (e : List ℕ × X). lookup (bytes_eq e.0) es ≡ Some e.1) v new (recursion_from_All (λ (e : List ℕ × X). lookup (bytes_eq e.0) es ≡ Some e.1) (map v new) (All-permutation (λ (e : List ℕ × X). lookup (bytes_eq e.0) es ≡ Some e.1) es (map v new) same_terms (entries_found es apart)))

  -- each key that is found is among them
  pub sorted_all : (key : List ℕ) → IsSome (lookup (bytes_eq key) es) → list_any (bytes_eq key) (map (λ x. (v x).0) new) ≡ true
  sorted_all key found = ap (list_any (bytes_eq key)) (sym (keys_are v new)) ∙ sym (list_any-IsPermutation (bytes_eq key) (keys_of es) (keys_of (map v new)) same_keys) ∙ key_among es key found
