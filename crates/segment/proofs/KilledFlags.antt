-- Documents that die one after the other.
use Rattle.std.proofs.Common.{[], ◌++◌, ◌+◌, ◌<◌, ◌∷◌, ◌≡◌, ◌≤◌, ◌∙◌, Bool, List, ap, arith, drop, false, if◌then◌else◌, length, length-set, nat_lt, refl, slice_index, slice_set, suc, sym, take, take-append-drop, true, zero, ℕ}
use Rattle.std.proofs.Props.{props}
use Rattle.std.proofs.lemmas.Bool.Decides.{nat_tests}
use Rattle.std.specs.List.{AllByRecursion, AllByRecursion-prop}
use Rattle.segment.specs.Killed.{before, killed}

pub length-killed : (docs : List ℕ) (flags : List Bool) → length (killed docs flags) ≡ length flags
length-killed [] flags = refl
length-killed (doc ∷ docs) flags = length-killed docs (slice_set flags doc false) ∙ length-set flags doc false

pub killed_more : (docs more : List ℕ) (flags : List Bool) → killed (docs ++ more) flags ≡ killed more (killed docs flags)
killed_more [] more flags = refl
killed_more (doc ∷ docs) more flags = killed_more docs more (slice_set flags doc false)

-- one document more of a list
before_next : (end : ℕ) (docs : List ℕ) (i : ℕ) → i < length docs → before end (take (suc i) docs) ≡ before end (take i docs) ++ before end (slice_index docs i ∷ [])
before_next end [] i l = absurd (omega (arith, l))
before_next end (doc ∷ docs) zero l = refl
before_next end (doc ∷ docs) (suc i) l = go (nat_lt doc end) (before_next end docs i (omega (arith, l)))
  where
    go : (b : Bool) → before end (take (suc i) docs) ≡ before end (take i docs) ++ before end (slice_index docs i ∷ []) → (if b then doc ∷ before end (take (suc i) docs) else before end (take (suc i) docs)) ≡ (if b then doc ∷ before end (take i docs) else before end (take i docs)) ++ before end (slice_index docs i ∷ [])
    go true ih = ap (λ ds. doc ∷ ds) ih
    go false ih = ih

killed_next : (end : ℕ) (docs : List ℕ) (i : ℕ) (flags : List Bool) → i < length docs → killed (before end (take (i + 1) docs)) flags ≡ killed (before end (slice_index docs i ∷ [])) (killed (before end (take i docs)) flags)
killed_next end docs i flags l =
    let next : i + 1 ≡ suc i = omega arith in
    ap (λ n. killed (before end (take n docs)) flags) next
    ∙ ap (λ ds. killed ds flags) (before_next end docs i l)
    ∙ killed_more (before end (take i docs)) (before end (slice_index docs i ∷ [])) flags

-- it dies before the end, and else nothing changes
pub killed_one : (end : ℕ) (docs : List ℕ) (i : ℕ) (flags : List Bool) → i < length docs → slice_index docs i < end → killed (before end (take (i + 1) docs)) flags ≡ slice_set (killed (before end (take i docs)) flags) (slice_index docs i) false
killed_one end docs i flags l early =
    let yes : nat_lt (slice_index docs i) end ≡ true = grind (arith, nat_tests) in
    killed_next end docs i flags l ∙ ap (λ (b : Bool). killed (if b then slice_index docs i ∷ [] else []) (killed (before end (take i docs)) flags)) yes

pub killed_none : (end : ℕ) (docs : List ℕ) (i : ℕ) (flags : List Bool) → i < length docs → end ≤ slice_index docs i → killed (before end (take (i + 1) docs)) flags ≡ killed (before end (take i docs)) flags
killed_none end docs i flags l late =
    let no : nat_lt (slice_index docs i) end ≡ false = grind (arith, nat_tests) in
    killed_next end docs i flags l ∙ ap (λ (b : Bool). killed (if b then slice_index docs i ∷ [] else []) (killed (before end (take i docs)) flags)) no

pub all_at : (P : ℕ → Type 0) (docs : List ℕ) (i : ℕ) → AllByRecursion P docs → i < length docs → P (slice_index docs i)
all_at P [] i all l = absurd (omega (arith, l))
all_at P (doc ∷ docs) zero all l = all.0
all_at P (doc ∷ docs) (suc i) all l = all_at P docs i all.1 (omega (arith, l))

pub all_taken : (P : ℕ → Type 0) (n : ℕ) (docs : List ℕ) → AllByRecursion P docs → AllByRecursion P (take n docs) × AllByRecursion P (drop n docs)
all_taken P zero docs all = (tt, all)
all_taken P (suc n) [] all = (tt, tt)
all_taken P (suc n) (doc ∷ docs) all = ((all.0, (all_taken P n docs all.1).0), (all_taken P n docs all.1).1)

before-append : (end : ℕ) (docs more : List ℕ) → before end (docs ++ more) ≡ before end docs ++ before end more
before-append end [] more = refl
before-append end (doc ∷ docs) more = go (nat_lt doc end) (before-append end docs more)
  where
    go : (b : Bool) → before end (docs ++ more) ≡ before end docs ++ before end more → (if b then doc ∷ before end (docs ++ more) else before end (docs ++ more)) ≡ (if b then doc ∷ before end docs else before end docs) ++ before end more
    go true ih = ap (λ ds. doc ∷ ds) ih
    go false ih = ih

-- a block of documents, and what is left of them
pub killed_block : (end n : ℕ) (docs : List ℕ) (flags : List Bool) → killed (before end (drop n docs)) (killed (before end (take n docs)) flags) ≡ killed (before end docs) flags
killed_block end n docs flags =
    sym (killed_more (before end (take n docs)) (before end (drop n docs)) flags)
    ∙ ap (λ ds. killed ds flags) (sym (before-append end (take n docs) (drop n docs)) ∙ ap (before end) (take-append-drop n docs))

-- no document is left
pub killed_end : (end : ℕ) (docs : List ℕ) (flags : List Bool) → length docs ≡ 0 → flags ≡ killed (before end docs) flags
killed_end end [] flags e = refl
killed_end end (doc ∷ docs) flags e = absurd (omega (arith, e))

-- that all documents are below a number is a proposition
pub all_below : (n : ℕ) (docs : List ℕ) → IsProp (AllByRecursion (λ doc. doc < n) docs)
all_below n docs = AllByRecursion-prop (λ doc. doc < n) (λ doc. hlevel props) docs
