-- What a merger of terms stands on, and how it goes on.
use Rattle.std.proofs.Common.{[], Bool, IsSome, List, None, Option, Some, ap, arith, bytes_eq, drop, false, find, if◌then◌else◌, length, map, nat_eq, not, option_map, set, take, refl, slice_get, subst, suc, sym, true, true≢false, zero, ◌++◌, ◌<◌, ◌||◌, ◌&&◌, ◌≡◌, ◌≢◌, ◌≤◌, ◌∙◌, ◌∷◌, ℕ}
use Rattle.std.proofs.lemmas.Bool.Decides.{nat_tests}
use Rattle.std.proofs.lemmas.List.{length-map}
use Rattle.std.specs.List.{AllByRecursion, list_any, slice_index_or}
use Rattle.segment_reader.specs.Dictionaries.{Placed}
use Rattle.segment_reader.specs.Readers.{info_in}
use Rattle.segment_reader.specs.Searching.{between, is_before, is_below}
use Rattle.layouts.specs.TermSections.{TermsAscend}
use Rattle.merging.proofs.MergedKeys.{is_itself}
use Rattle.merging.proofs.MergedSteps.{Leads, all_past_ascend, first_told, least_first, least_is, left_among, left_told, none_left}
use Rattle.merging.specs.KeyLists.{begins_with, first_key, keys_of, least_key, merged_keys, past_key}
use Rattle.merging.specs.Walking.{AreLeft, IsLeast, first_info}

-- ---- the first key

-- where a member is the least, its first key is that of all
pub first_is : (left : List (List Placed)) (number : ℕ) → IsLeast left (Some number) → (k : List ℕ) × (first_key (slice_index_or left number []) ≡ Some k) × (least_key left ≡ Some k)
first_is left number is = go (first_key (slice_index_or left number [])) refl is.has_key.1
  where
    go : (o : Option (List ℕ)) → first_key (slice_index_or left number []) ≡ o → IsSome {T = List ℕ} (first_key (slice_index_or left number [])) → (k : List ℕ) × (first_key (slice_index_or left number []) ≡ Some k) × (least_key left ≡ Some k)
    go None e some = absurd (let bad : IsSome {T = List ℕ} None = subst (IsSome {T = List ℕ}) e some in cc)
    go (Some k) e some = (k, e, sym is.key_is ∙ e)

pub first_of_keys : (members left : List (List Placed)) (number : ℕ) → AreLeft members left → IsLeast left (Some number) → first_key (slice_index_or left number []) ≡ slice_get (merged_keys left) 0
first_of_keys members left number are is =
    let first = first_is left number is in
    first.1 ∙ ap (λ ks. slice_get ks 0) (sym (least_first first.0 left are.ascend first.2))

pub no_keys : (left : List (List Placed)) → IsLeast left None → merged_keys left ≡ []
no_keys left is = none_left left (sym is.key_is)

-- ---- one key further

pub left_further : (k : List ℕ) (members left : List (List Placed)) → least_key left ≡ Some k → AreLeft members left → AreLeft members (map (past_key k) left)
left_further k members left is are = record {
  long = length-map left (past_key k) ∙ are.long;
  ascend = all_past_ascend k left are.ascend;
  same = λ key among. left_told key k left are.ascend is among ∙ are.same key (left_among key k left are.ascend is among);
}

pub keys_further : (k : List ℕ) (members left : List (List Placed)) → least_key left ≡ Some k → AreLeft members left → merged_keys (map (past_key k) left) ≡ drop 1 (merged_keys left)
keys_further k members left is are = sym (ap (drop 1) (least_first k left are.ascend is))

-- ---- what a member tells

told_at : {X Y : Type 0} (f : X → Y) (xs : List X) (i : ℕ) (d : X) → slice_index_or (map f xs) i (f d) ≡ f (slice_index_or xs i d)
told_at f [] i d = refl
told_at f (x ∷ xs) zero d = refl
told_at f (x ∷ xs) (suc i) d = told_at f xs i d

told_alike : {X Y : Type 0} (f : X → Y) (xs ys : List X) (i : ℕ) (d : X) → map f xs ≡ map f ys → f (slice_index_or xs i d) ≡ f (slice_index_or ys i d)
told_alike f xs ys i d same = sym (told_at f xs i d) ∙ ap (λ zs. slice_index_or zs i (f d)) same ∙ told_at f ys i d

-- what the member of a number tells of the least key
member_told : (k : List ℕ) (members left : List (List Placed)) (i : ℕ) → least_key left ≡ Some k → AreLeft members left → info_in k (slice_index_or left i []) ≡ info_in k (slice_index_or members i [])
member_told k members left i is are = told_alike (info_in k) left members i [] (are.same k (ap (list_any (bytes_eq k)) (least_first k left are.ascend is) ∙ ap (λ b. b || list_any (bytes_eq k) (merged_keys (map (past_key k) left))) (is_itself k)))

at_all : {X : Type 0} (P : X → Type 0) (xs : List X) (i : ℕ) (d : X) → AllByRecursion P xs → P d → P (slice_index_or xs i d)
at_all P [] i d all none = none
at_all P (x ∷ xs) zero d all none = all.0
at_all P (x ∷ xs) (suc i) d all none = at_all P xs i d all.1 none

begun_told : (k : List ℕ) (m : List Placed) → begins_with k m ≡ true → first_info m ≡ info_in k m
begun_told k [] begins = absurd (true≢false (sym begins))
begun_told k (t ∷ terms) begins = ap (λ b. option_map (λ (u : Placed). u.1) (if b then Some t else find (λ (u : Placed). bytes_eq u.0 k) terms)) (sym begins)

other_told : (k : List ℕ) (m : List Placed) → TermsAscend (keys_of m) → Leads k m → begins_with k m ≡ false → None ≡ info_in k m
other_told k [] ascend leads other = refl
other_told k (t ∷ terms) ascend leads other = sym (first_told k (t ∷ terms) ascend leads t terms refl other)

pub info_begun : (k : List ℕ) (members left : List (List Placed)) (i : ℕ) → least_key left ≡ Some k → AreLeft members left → begins_with k (slice_index_or left i []) ≡ true → first_info (slice_index_or left i []) ≡ info_in k (slice_index_or members i [])
info_begun k members left i is are begins = begun_told k (slice_index_or left i []) begins ∙ member_told k members left i is are

pub info_none : (k : List ℕ) (members left : List (List Placed)) (i : ℕ) → least_key left ≡ Some k → AreLeft members left → begins_with k (slice_index_or left i []) ≡ false → None ≡ info_in k (slice_index_or members i [])
info_none k members left i is are other =
    other_told k (slice_index_or left i []) (at_all (λ terms. TermsAscend (keys_of terms)) left i [] are.ascend tt) (at_all (Leads k) left i [] (least_is left k is).0 tt) other
    ∙ member_told k members left i is are

-- the first of the keys is the least
pub least_of_keys : (k : List ℕ) (members left : List (List Placed)) (least : Option ℕ) → AreLeft members left → IsLeast left least → slice_get (merged_keys left) 0 ≡ Some k → least_key left ≡ Some k
least_of_keys k members left None are is first = absurd (let bad = ap (λ ks. slice_get ks 0) (sym (no_keys left is)) ∙ first in cc)
least_of_keys k members left (Some number) are is first = (let f = first_is left number is in f.2 ∙ sym f.1 ∙ first_of_keys members left number are is ∙ first)

-- ---- all terms of a dictionary

pub between_all : (terms : List Placed) → between [] None terms ≡ terms
between_all [] = refl
between_all (t ∷ terms) = ap (λ b. if b then t ∷ between [] None terms else between [] None terms) (go t.0) ∙ ap (λ us. t ∷ us) (between_all terms)
  where
    go : (bs : List ℕ) → (not (is_below [] bs) && is_before None bs) ≡ true
    go [] = refl
    go (b ∷ bs) = refl

-- ---- one member after another

-- the element of an index, whatever stands past the end
pub same_there : {X : Type 0} (xs : List X) (i : ℕ) (a b : X) → i < length xs → slice_index_or xs i a ≡ slice_index_or xs i b
same_there [] i a b within = absurd (omega (arith, within))
same_there (x ∷ xs) zero a b within = refl
same_there (x ∷ xs) (suc i) a b within = same_there xs i a b (omega (arith, within))

-- behind a key that is the first
pub first_passed : (k : List ℕ) (m : List Placed) → first_key m ≡ Some k → drop 1 m ≡ past_key k m
first_passed k [] is = refl
first_passed k (t ∷ terms) is =
    let same : t.0 ≡ k = cc in
    sym (ap (λ b. if b then terms else t ∷ terms) (ap (λ x. bytes_eq x k) same ∙ is_itself k))

abbrev changed : {X : Type 0} → (X → X) → ℕ → List X → List X
changed f i xs = map f (take i xs) ++ drop i xs

changed_next : {X : Type 0} (f : X → X) (i : ℕ) (xs : List X) (d : X) → i < length xs → changed f (suc i) xs ≡ set (changed f i xs) i (f (slice_index_or xs i d))
changed_next f i [] d within = absurd (omega (arith, within))
changed_next f zero (x ∷ xs) d within = refl
changed_next f (suc i) (x ∷ xs) d within = ap (λ ys. f x ∷ ys) (changed_next f i xs d (omega (arith, within)))

pub all_changed : {X : Type 0} (f : X → X) (i : ℕ) (xs : List X) → length xs ≤ i → changed f i xs ≡ map f xs
all_changed f zero [] long = refl
all_changed f (suc i) [] long = refl
all_changed f zero (x ∷ xs) long = absurd (omega (arith, long))
all_changed f (suc i) (x ∷ xs) long = ap (λ ys. f x ∷ ys) (all_changed f i xs (omega (arith, long)))

changed_there : {X : Type 0} (f : X → X) (i : ℕ) (xs : List X) (d : X) → slice_index_or (changed f i xs) i d ≡ slice_index_or xs i d
changed_there f i [] d = go i
  where
    go : (n : ℕ) → slice_index_or (changed f n []) i d ≡ slice_index_or [] i d
    go zero = refl
    go (suc n) = refl
changed_there f zero (x ∷ xs) d = refl
changed_there f (suc i) (x ∷ xs) d = changed_there f i xs d

set_twice : {X : Type 0} (xs : List X) (i : ℕ) (x y : X) → set (set xs i x) i y ≡ set xs i y
set_twice [] i x y = refl
set_twice (z ∷ xs) zero x y = refl
set_twice (z ∷ xs) (suc i) x y = ap (λ ys. z ∷ ys) (set_twice xs i x y)

set_apart : {X : Type 0} (xs : List X) (i j : ℕ) (x y : X) → i ≢ j → set (set xs i x) j y ≡ set (set xs j y) i x
set_apart [] i j x y other = refl
set_apart (z ∷ xs) zero zero x y other = absurd (other refl)
set_apart (z ∷ xs) zero (suc j) x y other = refl
set_apart (z ∷ xs) (suc i) zero x y other = refl
set_apart (z ∷ xs) (suc i) (suc j) x y other = ap (λ ys. z ∷ ys) (set_apart xs i j x y (λ same. other (ap suc same)))

set_same : {X : Type 0} (xs : List X) (i : ℕ) (d : X) → set xs i (slice_index_or xs i d) ≡ xs
set_same [] i d = refl
set_same (x ∷ xs) zero d = refl
set_same (x ∷ xs) (suc i) d = ap (λ ys. x ∷ ys) (set_same xs i d)

set_mapped : {X : Type 0} (f : X → X) (xs : List X) (i : ℕ) (d : X) → set (map f xs) i (f (slice_index_or xs i d)) ≡ map f xs
set_mapped f [] i d = refl
set_mapped f (x ∷ xs) zero d = refl
set_mapped f (x ∷ xs) (suc i) d = ap (λ ys. f x ∷ ys) (set_mapped f xs i d)

there_apart : {X : Type 0} (xs : List X) (i j : ℕ) (x d : X) → i ≢ j → slice_index_or (set xs i x) j d ≡ slice_index_or xs j d
there_apart [] i j x d other = refl
there_apart (y ∷ xs) zero zero x d other = absurd (other refl)
there_apart (y ∷ xs) zero (suc j) x d other = refl
there_apart (y ∷ xs) (suc i) zero x d other = refl
there_apart (y ∷ xs) (suc i) (suc j) x d other = there_apart xs i j x d (λ same. other (ap suc same))

there_set : {X : Type 0} (xs : List X) (i : ℕ) (x d : X) → i < length xs → slice_index_or (set xs i x) i d ≡ x
there_set [] i x d within = absurd (omega (arith, within))
there_set (y ∷ xs) zero x d within = refl
there_set (y ∷ xs) (suc i) x d within = there_set xs i x d (omega (arith, within))

changed_long : {X : Type 0} (f : X → X) (i : ℕ) (xs : List X) → length (changed f i xs) ≡ length xs
changed_long f zero xs = refl
changed_long f (suc i) [] = refl
changed_long f (suc i) (x ∷ xs) = ap suc (changed_long f i xs)

set_long : {X : Type 0} (xs : List X) (i : ℕ) (x : X) → length (set xs i x) ≡ length xs
set_long [] i x = refl
set_long (y ∷ xs) zero x = refl
set_long (y ∷ xs) (suc i) x = ap suc (set_long xs i x)

-- all but one, of those so far
abbrev pub changed_but : {X : Type 0} → (X → X) → ℕ → X → ℕ → List X → List X
changed_but f least d i xs = set (changed f i xs) least (slice_index_or xs least d)

module _ {X : Type 0} (f : X → X) (least : ℕ) (d : X) (xs : List X) where
  pub but_none : changed_but f least d 0 xs ≡ xs
  but_none = set_same xs least d

  pub but_long : (i : ℕ) → length (changed_but f least d i xs) ≡ length xs
  but_long i = set_long (changed f i xs) least (slice_index_or xs least d) ∙ changed_long f i xs

  pub but_least : (i : ℕ) → least < length xs → slice_index_or (changed_but f least d i xs) least d ≡ slice_index_or xs least d
  but_least i within = there_set (changed f i xs) least (slice_index_or xs least d) d (omega (arith, within, changed_long f i xs))

  pub but_there : (i : ℕ) → i ≢ least → slice_index_or (changed_but f least d i xs) i d ≡ slice_index_or xs i d
  but_there i other = there_apart (changed f i xs) least i (slice_index_or xs least d) d (λ same. other (sym same)) ∙ changed_there f i xs d

  pub but_next : (i : ℕ) → i < length xs → i ≢ least → set (changed_but f least d i xs) i (f (slice_index_or xs i d)) ≡ changed_but f least d (suc i) xs
  but_next i within other = set_apart (changed f i xs) least i (slice_index_or xs least d) (f (slice_index_or xs i d)) (λ same. other (sym same)) ∙ ap (λ ys. set ys least (slice_index_or xs least d)) (sym (changed_next f i xs d within))

  -- what the function leaves as it is may be left
  pub but_left : (i : ℕ) → i < length xs → (i ≢ least → f (slice_index_or xs i d) ≡ slice_index_or xs i d) → changed_but f least d i xs ≡ changed_but f least d (suc i) xs
  but_left i within as_it_is = go (nat_eq i least) refl
    where
      next : changed f (suc i) xs ≡ set (changed f i xs) i (f (slice_index_or xs i d))
      next = changed_next f i xs d within

      go : (b : Bool) → nat_eq i least ≡ b → changed_but f least d i xs ≡ changed_but f least d (suc i) xs
      go true same =
          let here : i ≡ least = (let s = same in grind (arith, nat_tests, s)) in
          sym (set_twice (changed f i xs) least (f (slice_index_or xs i d)) (slice_index_or xs least d))
          ∙ ap (λ n. set (set (changed f i xs) n (f (slice_index_or xs i d))) least (slice_index_or xs least d)) (sym here)
          ∙ ap (λ ys. set ys least (slice_index_or xs least d)) (sym next)
      go false apart =
          let other : i ≢ least = (λ same. (let s = apart in absurd (true≢false (sym (let t : nat_eq i least ≡ true = (let e = same in grind (arith, nat_tests, e)) in t) ∙ s)))) in
          ap (λ ys. set ys least (slice_index_or xs least d))
          (sym (set_same (changed f i xs) i d) ∙ ap (set (changed f i xs) i) (changed_there f i xs d ∙ sym (as_it_is other)) ∙ sym next)

  pub but_all : (i : ℕ) → length xs ≤ i → set (changed_but f least d i xs) least (f (slice_index_or xs least d)) ≡ map f xs
  but_all i long =
      set_twice (changed f i xs) least (slice_index_or xs least d) (f (slice_index_or xs least d))
      ∙ ap (λ ys. set ys least (f (slice_index_or xs least d))) (all_changed f i xs long)
      ∙ set_mapped f xs least d

-- ---- what a test says of one member

pub begun_passed : (k : List ℕ) (m : List Placed) → begins_with k m ≡ true → drop 1 m ≡ past_key k m
begun_passed k [] begins = refl
begun_passed k (t ∷ terms) begins = ap (λ b. if b then terms else t ∷ terms) (sym begins)

pub other_left : (k : List ℕ) (m : List Placed) → begins_with k m ≡ false → past_key k m ≡ m
other_left k [] other = refl
other_left k (t ∷ terms) other = ap (λ b. if b then terms else t ∷ terms) other
