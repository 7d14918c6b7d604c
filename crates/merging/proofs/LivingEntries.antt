-- Living documents of entries.
use Rattle.std.proofs.Common.{[], Bool, List, ap, arith, false, filter, if◌then◌else◌, map, nat_le, refl, subst, suc, sym, true, zero, ◌+◌, ◌-◌, ◌<◌, ◌≡◌, ◌≤◌, ◌∙◌, ◌∷◌, ◌^◌, ℕ}
use Rattle.std.proofs.lemmas.Bool.Decides.{nat_tests}
use Rattle.std.specs.List.{AllByRecursion, slice_index_or}
use Rattle.docsets.specs.Entries.{AreSingle, Entry, Rising, from, highest, single}
use Rattle.definitions.specs.Merging.{at_document, rank}
use Rattle.definitions.specs.Postings.{Posting}
use Rattle.layouts.specs.Deltas.{IsAscendingFrom}
use Rattle.merging.proofs.Numbers.{number_within}
use Rattle.merging.specs.Living.{living_in, posting_in}
use Rattle.merging.specs.Mappings.{Mapping, end_of}

-- ---- ranks

rank_further : (flags : List Bool) (i : ℕ) → rank flags (suc i) ≡ rank flags i + (if slice_index_or flags i false then 1 else 0)
rank_further [] zero = omega arith
rank_further [] (suc i) = omega arith
rank_further (true ∷ flags) zero = omega arith
rank_further (false ∷ flags) zero = omega arith
rank_further (true ∷ flags) (suc i) = (let later = rank_further flags i in omega (arith, later))
rank_further (false ∷ flags) (suc i) = rank_further flags i

pub rank_next : (flags : List Bool) (i : ℕ) (flag : Bool) → slice_index_or flags i false ≡ flag → rank flags (i + 1) ≡ rank flags i + (if flag then 1 else 0)
rank_next flags i flag is = ap (rank flags) (let e : i + 1 ≡ suc i = omega arith in e) ∙ rank_further flags i ∙ ap (λ b. rank flags i + (if b then 1 else 0)) is

rank_between : (flags : List Bool) (i n : ℕ) → rank flags i ≤ rank flags (i + n)
rank_between flags i zero = (let e = ap (rank flags) (let k : i + 0 ≡ i = omega arith in k) in omega (arith, e))
rank_between flags i (suc n) =
    let e : rank flags (i + suc n) ≡ rank flags (suc (i + n)) = ap (rank flags) (let k : i + suc n ≡ suc (i + n) = omega arith in k) in
    let later = rank_between flags i n in
    let next = rank_further flags (i + n) in
    omega (arith, e, later, next)

pub rank_rises : (flags : List Bool) (i j : ℕ) → i ≤ j → rank flags i ≤ rank flags j
rank_rises flags i j le = go (j - i) (omega (arith, le))
  where
    go : (n : ℕ) → j ≡ i + n → rank flags i ≤ rank flags j
    go n is = subst (λ k. rank flags i ≤ rank flags k) (sym is) (rank_between flags i n)

-- ---- one entry

module _ (m : Mapping) (e : Entry) (es : List Entry) where
  abbrev kept : Bool → List Posting
  kept b = map (λ (p : Posting). at_document (m.base + rank m.flags p.doc) p) (if b then posting_in e ∷ filter (λ (p : Posting). slice_index_or m.flags p.doc false) (map posting_in es) else filter (λ (p : Posting). slice_index_or m.flags p.doc false) (map posting_in es))

  pub living_first : slice_index_or m.flags e.doc false ≡ true → living_in m (e ∷ es) ≡ at_document (m.base + rank m.flags e.doc) (posting_in e) ∷ living_in m es
  living_first living = ap kept living

  pub dead_first : slice_index_or m.flags e.doc false ≡ false → living_in m (e ∷ es) ≡ living_in m es
  dead_first dead = ap kept dead

-- ---- all entries

-- what holds of each living posting
pub all_living : (P : Posting → Type 0) (m : Mapping) (es : List Entry) → AllByRecursion (λ (e : Entry). slice_index_or m.flags e.doc false ≡ true → P (at_document (m.base + rank m.flags e.doc) (posting_in e))) es → AllByRecursion P (living_in m es)
all_living P m [] all = tt
all_living P m (e ∷ es) all = go (slice_index_or m.flags e.doc false) refl (all_living P m es all.1)
  where
    go : (b : Bool) → slice_index_or m.flags e.doc false ≡ b → AllByRecursion P (living_in m es) → AllByRecursion P (living_in m (e ∷ es))
    go true living rest = subst (AllByRecursion P) (sym (living_first m e es living)) (all.0 living, rest)
    go false dead rest = subst (AllByRecursion P) (sym (dead_first m e es dead)) rest

all_entries : (P : Entry → Type 0) (es : List Entry) → ((e : Entry) → P e) → AllByRecursion P es
all_entries P [] each = tt
all_entries P (e ∷ es) each = (each e, all_entries P es each)

-- a living document's number is before the end
pub all_within : (m : Mapping) (es : List Entry) → AllByRecursion (λ (p : Posting). p.doc < end_of m) (living_in m es)
all_within m es = all_living (λ p. p.doc < end_of m) m es (all_entries (λ e. slice_index_or m.flags e.doc false ≡ true → m.base + rank m.flags e.doc < end_of m) es (λ e living. (let n = number_within m.flags e.doc living in omega (arith, n))))

pub all_counted : (m : Mapping) (es : List Entry) → AllByRecursion (λ (e : Entry). 0 < e.count) es → AllByRecursion (λ (p : Posting). 0 < p.count) (living_in m es)
all_counted m es all = all_living (λ p. 0 < p.count) m es (go es all)
  where
    go : (xs : List Entry) → AllByRecursion (λ (e : Entry). 0 < e.count) xs → AllByRecursion (λ (e : Entry). slice_index_or m.flags e.doc false ≡ true → 0 < e.count) xs
    go [] all = tt
    go (x ∷ xs) all = ((λ living. all.0), go xs all.1)

pub small_positions : (ps : List ℕ) (n : ℕ) → highest ps < n → AllByRecursion (λ p. p < n) ps
small_positions [] n small = tt
small_positions (p ∷ ps) n small = (omega (arith, small), small_positions ps n (omega (arith, small)))

pub all_placed : (m : Mapping) (es : List Entry) → AreSingle es → AllByRecursion (λ (p : Posting). AllByRecursion (λ n. n < 2 ^ 31) p.positions) (living_in m es)
all_placed m es single_ones = all_living (λ p. AllByRecursion (λ n. n < 2 ^ 31) p.positions) m es (go es single_ones)
  where
    go : (xs : List Entry) → AreSingle xs → AllByRecursion (λ (e : Entry). slice_index_or m.flags e.doc false ≡ true → AllByRecursion (λ n. n < 2 ^ 31) (single e.positions)) xs
    go [] all = tt
    go (x ∷ xs) all = ((λ living. small_positions (single x.positions) (2 ^ 31) all.2), go xs all.3)

weaker : (low high : ℕ) (docs : List ℕ) → low ≤ high → IsAscendingFrom high docs → IsAscendingFrom low docs
weaker low high [] le up = tt
weaker low high (d ∷ docs) le up = (let first = up.0 in omega (arith, le, first), up.1)

-- they ascend
ascend_from : (m : Mapping) (low : ℕ) (es : List Entry) → Rising low es → IsAscendingFrom (m.base + rank m.flags low) (map (λ (p : Posting). p.doc) (living_in m es))
ascend_from m low [] rising = tt
ascend_from m low (e ∷ es) rising = go (slice_index_or m.flags e.doc false) refl (ascend_from m (e.doc + 1) es rising.3)
  where
    docs : List Posting → List ℕ
    docs ps = map (λ (p : Posting). p.doc) ps

    up : rank m.flags low ≤ rank m.flags e.doc
    up = rank_rises m.flags low e.doc rising.0

    go : (b : Bool) → slice_index_or m.flags e.doc false ≡ b → IsAscendingFrom (m.base + rank m.flags (e.doc + 1)) (docs (living_in m es)) → IsAscendingFrom (m.base + rank m.flags low) (docs (living_in m (e ∷ es)))
    go true living rest =
        let next : m.base + rank m.flags (e.doc + 1) ≡ m.base + rank m.flags e.doc + 1 = (let n = rank_next m.flags e.doc true living in omega (arith, n)) in
        subst (λ ps. IsAscendingFrom (m.base + rank m.flags low) (docs ps)) (sym (living_first m e es living))
        (omega (arith, up), subst (λ n. IsAscendingFrom n (docs (living_in m es))) next rest)
    go false dead rest =
        let next = rank_next m.flags e.doc false dead in
        subst (λ ps. IsAscendingFrom (m.base + rank m.flags low) (docs ps)) (sym (dead_first m e es dead))
        (weaker (m.base + rank m.flags low) (m.base + rank m.flags (e.doc + 1)) (docs (living_in m es)) (omega (arith, up, next)) rest)

pub living_ascend : (m : Mapping) (next : ℕ) (es : List Entry) → Rising 0 es → next ≤ m.base → IsAscendingFrom next (map (λ (p : Posting). p.doc) (living_in m es))
living_ascend m next es rising before = weaker next (m.base + rank m.flags 0) (map (λ (p : Posting). p.doc) (living_in m es)) (omega (arith, before)) (ascend_from m 0 es rising)

-- ---- documents within a segment

none_from : (t : ℕ) (e : Entry) (es : List Entry) → from t (e ∷ es) ≡ [] → (e.doc < t) × (from t es ≡ [])
none_from t e es none = go (nat_le t e.doc) refl
  where
    go : (b : Bool) → nat_le t e.doc ≡ b → (e.doc < t) × (from t es ≡ [])
    go true here = absurd (let bad : e ∷ from t es ≡ [] = ap (λ b. if b then e ∷ from t es else from t es) (sym here) ∙ none in cc)
    go false other = ((let t = other in grind (arith, nat_tests, t)), ap (λ b. if b then e ∷ from t es else from t es) (sym other) ∙ none)

pub rest_within : (t : ℕ) (e : Entry) (es : List Entry) → from t (e ∷ es) ≡ [] → from t es ≡ []
rest_within t e es none = (none_from t e es none).1
