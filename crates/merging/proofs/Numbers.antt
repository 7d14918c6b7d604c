-- New numbers of documents.
use Rattle.std.proofs.Common.{[], Bool, List, None, Some, ap, ap₂, arith, false, get_or, if◌then◌else◌, length, map, refl, suc, sym, take, true, zero, ◌++◌, ◌+◌, ◌<◌, ◌≡◌, ◌≢◌, ◌≤◌, ◌∙◌, ◌∷◌, ℕ}
use Rattle.std.proofs.lemmas.Bool.{le-ltb, lt-ltb}
use Rattle.std.specs.List.{slice_index_or}
use Rattle.definitions.specs.Merging.{num_living, rank}
use Rattle.definitions.specs.Postings.{terminated}
use Rattle.merging.specs.Mappings.{AreNumbers, is_living, mapping_of, new_doc, new_docs}

-- ---- how many are alive

abbrev pub one : Bool → ℕ
one flag = if flag then 1 else 0

next_living : (flag : Bool) (flags : List Bool) → num_living (flag ∷ flags) ≡ one flag + num_living flags
next_living true flags = omega arith
next_living false flags = omega arith

pub living_more : (flags : List Bool) (flag : Bool) → num_living (flags ++ flag ∷ []) ≡ num_living flags + one flag
living_more [] flag = next_living flag [] ∙ omega arith
living_more (f ∷ flags) flag =
    let later = living_more flags flag in
    let here = next_living f (flags ++ flag ∷ []) in
    let was = next_living f flags in
    omega (arith, later, here, was)

pub living_front : (i : ℕ) (flags : List Bool) → num_living (take i flags) ≤ num_living flags
living_front zero flags = omega arith
living_front (suc i) [] = omega arith
living_front (suc i) (f ∷ flags) =
    let later = living_front i flags in
    let here = next_living f (take i flags) in
    let was = next_living f flags in
    omega (arith, later, here, was)

-- ---- the numbers

pub docs_more : (base : ℕ) (flags : List Bool) (flag : Bool) → new_docs base (flags ++ flag ∷ []) ≡ new_docs base flags ++ (if flag then base + num_living flags else terminated) ∷ []
docs_more base [] true = ap (λ n. n ∷ []) (let e : base ≡ base + 0 = omega arith in e)
docs_more base [] false = refl
docs_more base (true ∷ flags) flag =
    let e : base + 1 + num_living flags ≡ base + num_living (true ∷ flags) = omega (arith, next_living true flags) in
    ap (λ ds. base ∷ ds) (docs_more (base + 1) flags flag) ∙ ap (λ n. base ∷ (new_docs (base + 1) flags ++ (if flag then n else terminated) ∷ [])) e
docs_more base (false ∷ flags) flag =
    let e : base + num_living flags ≡ base + num_living (false ∷ flags) = omega (arith, next_living false flags) in
    ap (λ ds. terminated ∷ ds) (docs_more base flags flag) ∙ ap (λ n. terminated ∷ (new_docs base flags ++ (if flag then n else terminated) ∷ [])) e

pub flags_back : (base : ℕ) (flags : List Bool) → base + num_living flags ≤ terminated → map is_living (new_docs base flags) ≡ flags
flags_back base [] few = refl
flags_back base (true ∷ flags) few =
    let n = next_living true flags in
    ap₂ (λ b bs. b ∷ bs) (lt-ltb base terminated (omega (arith, few, n))) (flags_back (base + 1) flags (omega (arith, few, n)))
flags_back base (false ∷ flags) few =
    let n = next_living false flags in
    ap₂ (λ b bs. b ∷ bs) (le-ltb terminated terminated (omega arith)) (flags_back base flags (omega (arith, few, n)))

pub long_docs : (base : ℕ) (flags : List Bool) → length (new_docs base flags) ≡ length flags
long_docs base [] = refl
long_docs base (true ∷ flags) = ap suc (long_docs (base + 1) flags)
long_docs base (false ∷ flags) = ap suc (long_docs base flags)

pub number_at : (base : ℕ) (flags : List Bool) (i d : ℕ) → i < length flags → get_or (new_docs base flags) i d ≡ (if slice_index_or flags i false then base + rank flags i else terminated)
number_at base [] i d within = absurd (omega (arith, within))
number_at base (true ∷ flags) zero d within = omega arith
number_at base (false ∷ flags) zero d within = refl
number_at base (true ∷ flags) (suc i) d within = number_at (base + 1) flags i d (omega (arith, within)) ∙ ap (λ n. if slice_index_or flags i false then n else terminated) (let e : base + 1 + rank flags i ≡ base + suc (rank flags i) = omega arith in e)
number_at base (false ∷ flags) (suc i) d within = number_at base flags i d (omega (arith, within))

-- a living document has a number before the end
pub number_within : (flags : List Bool) (i : ℕ) → slice_index_or flags i false ≡ true → rank flags i < num_living flags
number_within [] i living = absurd cc
number_within (true ∷ flags) zero living = omega (arith, next_living true flags)
number_within (false ∷ flags) zero living = absurd cc
number_within (true ∷ flags) (suc i) living = (let later = number_within flags i living in omega (arith, later))
number_within (false ∷ flags) (suc i) living = number_within flags i living

-- ---- one document more

take_next : (i : ℕ) (flags : List Bool) → i < length flags → take (suc i) flags ≡ take i flags ++ slice_index_or flags i false ∷ []
take_next zero [] within = absurd (omega arith)
take_next zero (f ∷ flags) within = refl
take_next (suc i) [] within = absurd (omega arith)
take_next (suc i) (f ∷ flags) within = ap (λ fs. f ∷ fs) (take_next i flags (omega (arith, within)))

take_more : (i : ℕ) (flags : List Bool) (flag : Bool) → i < length flags → slice_index_or flags i false ≡ flag → take (i + 1) flags ≡ take i flags ++ flag ∷ []
take_more i flags flag within is = ap (λ n. take n flags) (let e : i + 1 ≡ suc i = omega arith in e) ∙ take_next i flags within ∙ ap (λ f. take i flags ++ f ∷ []) is

pub one_more : (base end i : ℕ) (flags : List Bool) (docs : List ℕ) (flag : Bool) → i < length flags → slice_index_or flags i false ≡ flag → docs ≡ new_docs base (take i flags) → end ≡ base + num_living (take i flags)
    → (docs ++ (if flag then end else terminated) ∷ [] ≡ new_docs base (take (i + 1) flags)) × (end + one flag ≡ base + num_living (take (i + 1) flags))
one_more base end i flags docs flag within is docs_are end_is =
    let more = take_more i flags flag within is in
    let count = living_more (take i flags) flag in
    let counted = ap num_living more in (
      ap₂ (λ ds n. ds ++ (if flag then n else terminated) ∷ []) docs_are end_is ∙ sym (docs_more base (take i flags) flag) ∙ sym (ap (new_docs base) more),
      omega (arith, end_is, count, counted),
    )

-- a living document more doesn't come past the end of all
pub room_for : (base end i : ℕ) (flags : List Bool) → i < length flags → slice_index_or flags i false ≡ true → end ≡ base + num_living (take i flags) → base + num_living flags ≤ terminated → end + 1 ≤ terminated
room_for base end i flags within living end_is few =
    let more = ap num_living (take_more i flags true within living) in
    let count = living_more (take i flags) true in
    let front = living_front (i + 1) flags in
    omega (arith, end_is, more, count, front, few)

-- ---- all documents

take_whole : (i : ℕ) (flags : List Bool) → length flags ≤ i → take i flags ≡ flags
take_whole zero [] long = refl
take_whole zero (f ∷ flags) long = absurd (omega (arith, long))
take_whole (suc i) [] long = refl
take_whole (suc i) (f ∷ flags) long = ap (λ fs. f ∷ fs) (take_whole i flags (omega (arith, long)))

module _ (base end i : ℕ) (flags : List Bool) (docs : List ℕ) (long : length flags ≤ i) (few : base + num_living flags ≤ terminated) (docs_are : docs ≡ new_docs base (take i flags)) (end_is : end ≡ base + num_living (take i flags)) where
  whole : docs ≡ new_docs base flags
  whole = docs_are ∙ ap (new_docs base) (take_whole i flags long)

  pub all_flags : map is_living docs ≡ flags
  all_flags = ap (map is_living) whole ∙ flags_back base flags few

  pub all_numbers : AreNumbers base end docs
  all_numbers = record {
    docs_are = whole ∙ ap (new_docs base) (sym all_flags);
    end_is = end_is ∙ ap (λ fs. base + num_living fs) (take_whole i flags long ∙ sym all_flags);
    end_fits = (let e = end_is ∙ ap (λ fs. base + num_living fs) (take_whole i flags long) in omega (arith, e, few));
  }

-- ---- one document

-- the number of a living document
pub living_found : (base end doc n : ℕ) (docs : List ℕ) → AreNumbers base end docs → doc < length docs → n ≡ get_or docs doc n → n ≢ terminated → Some n ≡ new_doc (mapping_of base docs) doc
living_found base end doc n docs are within is other = go (slice_index_or (map is_living docs) doc false) refl
  where
    flags : List Bool
    flags = map is_living docs

    long : length flags ≡ length docs
    long = sym (long_docs base flags) ∙ ap length (sym are.docs_are)

    there : n ≡ (if slice_index_or flags doc false then base + rank flags doc else terminated)
    there = is ∙ ap (λ ds. get_or ds doc n) are.docs_are ∙ number_at base flags doc n (omega (arith, within, long))

    go : (b : Bool) → slice_index_or flags doc false ≡ b → Some n ≡ (if slice_index_or flags doc false then Some (base + rank flags doc) else None)
    go true living = ap Some (there ∙ ap (λ b. if b then base + rank flags doc else terminated) living) ∙ ap (λ b. if b then Some (base + rank flags doc) else None) (sym living)
    go false dead = absurd (other (there ∙ ap (λ b. if b then base + rank flags doc else terminated) dead))

-- the number of a dead one
pub dead_found : (base end doc n : ℕ) (docs : List ℕ) → AreNumbers base end docs → doc < length docs → n ≡ get_or docs doc n → n ≡ terminated → None ≡ new_doc (mapping_of base docs) doc
dead_found base end doc n docs are within is none = go (slice_index_or (map is_living docs) doc false) refl
  where
    flags : List Bool
    flags = map is_living docs

    long : length flags ≡ length docs
    long = sym (long_docs base flags) ∙ ap length (sym are.docs_are)

    there : n ≡ (if slice_index_or flags doc false then base + rank flags doc else terminated)
    there = is ∙ ap (λ ds. get_or ds doc n) are.docs_are ∙ number_at base flags doc n (omega (arith, within, long))

    go : (b : Bool) → slice_index_or flags doc false ≡ b → None ≡ (if slice_index_or flags doc false then Some (base + rank flags doc) else None)
    go false dead = ap (λ b. if b then Some (base + rank flags doc) else None) (sym dead)
    go true living =
        let here : n ≡ base + rank flags doc = there ∙ ap (λ b. if b then base + rank flags doc else terminated) living in
        let before = number_within flags doc living in
        let end_is = are.end_is in
        let few = are.end_fits in
        absurd (omega (arith, here, before, end_is, few, none))
