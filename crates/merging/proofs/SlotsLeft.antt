-- Slots of living documents.
use Rattle.std.proofs.Common.{[], Bool, List, ap, ap₂, arith, false, filter, if◌then◌else◌, inl, inr, leb-true, length, length-append, nat_le, nat_lt, refl, suc, take, true, zero, ◌++◌, ◌+◌, ◌<◌, ◌^◌, ◌||◌, ◌≡◌, ◌≤◌, ◌⊎◌, ◌∙◌, ◌∷◌, ℕ}
use Rattle.std.proofs.lemmas.List.Sums.{count_by_more_yes, length-filter}
use Rattle.std.specs.List.{concat, items_where_true, slice_index_or}
use Rattle.definitions.proofs.Lists.{take_whole}
use Rattle.common.specs.BitSets.{count_set}
use Rattle.layouts.specs.Stores.{Block, max_docs}
use Rattle.definitions.specs.declared.fault.Fault.{Fault}
use Rattle.merging.specs.LivingSlots.{IsAppendRefusal, IsSlotRefusal, PassesStore}
use Rattle.store.proofs.Stacked.{count_append, count_shut}
use Rattle.store.specs.Stacking.{stacked}
use Rattle.store.specs.Writing.{Written, blocks_of, closed, count_of, docs_of, stored, written}

living_suc : {X : Type 0} (i : ℕ) (flags : List Bool) (xs : List X) (d : X) → i < length flags → i < length xs → items_where_true (take (suc i) flags) (take (suc i) xs) ≡ items_where_true (take i flags) (take i xs) ++ (if slice_index_or flags i false then slice_index_or xs i d ∷ [] else [])
living_suc i [] xs d a b = absurd (omega (arith, a))
living_suc i (f ∷ flags) [] d a b = absurd (omega (arith, b))
living_suc zero (true ∷ flags) (n ∷ xs) d a b = refl
living_suc zero (false ∷ flags) (n ∷ xs) d a b = refl
living_suc (suc i) (true ∷ flags) (n ∷ xs) d a b = ap (λ ys. n ∷ ys) (living_suc i flags xs d (omega (arith, a)) (omega (arith, b)))
living_suc (suc i) (false ∷ flags) (n ∷ xs) d a b = living_suc i flags xs d (omega (arith, a)) (omega (arith, b))

pub living_more : {X : Type 0} (i : ℕ) (flags : List Bool) (xs : List X) (d : X) (flag : Bool) → i < length xs → length xs ≡ length flags → slice_index_or flags i false ≡ flag → items_where_true (take (i + 1) flags) (take (i + 1) xs) ≡ items_where_true (take i flags) (take i xs) ++ (if flag then slice_index_or xs i d ∷ [] else [])
living_more i flags xs d flag within same is =
    ap (λ n. items_where_true (take n flags) (take n xs)) (let e : i + 1 ≡ suc i = omega arith in e)
    ∙ living_suc i flags xs d (omega (arith, within, same)) within
    ∙ ap (λ b. items_where_true (take i flags) (take i xs) ++ (if b then slice_index_or xs i d ∷ [] else [])) is

pub living_all : {X : Type 0} (i : ℕ) (flags : List Bool) (xs : List X) → length xs ≤ i → length xs ≡ length flags → items_where_true (take i flags) (take i xs) ≡ items_where_true flags xs
living_all i flags xs long same = ap₂ items_where_true (take_whole i flags (omega (arith, long, same))) (take_whole i xs long)

-- ---- all are alive

few_set : (flags : List Bool) → length (filter (λ (b : Bool). b) flags) ≤ length flags
few_set [] = omega arith
few_set (true ∷ flags) = (let later = few_set flags in omega (arith, later))
few_set (false ∷ flags) = (let later = few_set flags in omega (arith, later))

all_set : {X : Type 0} (flags : List Bool) (xs : List X) → length (filter (λ (b : Bool). b) flags) ≡ length flags → length xs ≡ length flags → items_where_true flags xs ≡ xs
all_set [] [] full same = refl
all_set [] (x ∷ xs) full same = absurd (omega (arith, same))
all_set (f ∷ flags) [] full same = absurd (omega (arith, same))
all_set (true ∷ flags) (x ∷ xs) full same = ap (λ ys. x ∷ ys) (all_set flags xs (omega (arith, full)) (omega (arith, same)))
all_set (false ∷ flags) (x ∷ xs) full same = (let few = few_set flags in absurd (omega (arith, full, few)))

pub all_living : {X : Type 0} (flags : List Bool) (xs : List X) → count_set flags ≡ length flags → length xs ≡ length flags → items_where_true flags xs ≡ xs
all_living flags xs full same = all_set flags xs (length-filter (λ (b : Bool). b) flags ∙ full) same

-- ---- what is refused

either_true : (a b : Bool) → (a || b) ≡ true → (a ≡ true) ⊎ (b ≡ true)
either_true true b is = inl refl
either_true false b is = inr is

count_front : (i : ℕ) (flags : List Bool) → length (filter (λ (b : Bool). b) (take i flags)) ≤ length (filter (λ (b : Bool). b) flags)
count_front zero flags = omega arith
count_front (suc i) [] = omega arith
count_front (suc i) (true ∷ flags) = (let later = count_front i flags in omega (arith, later))
count_front (suc i) (false ∷ flags) = count_front i flags

-- one more of those so far isn't more than all
count_within : (i : ℕ) (flags : List Bool) → i < length flags → slice_index_or flags i false ≡ true → count_set (take i flags) < count_set flags
count_within i flags there living =
    let more = count_by_more_yes (λ (b : Bool). b) flags i false there living in
    let front = count_front (i + 1) flags in
    let a = length-filter (λ (b : Bool). b) (take (i + 1) flags) in
    let b = length-filter (λ (b : Bool). b) flags in
    omega (arith, more, front, a, b)

pub slot_refused : (fault : Fault) (was now : Written) (flags : List Bool) (i : ℕ) (blocks : List Block) → i < length flags → slice_index_or flags i false ≡ true → docs_of now ≡ docs_of was + count_set (take i flags) → now.block_size ≡ was.block_size → IsSlotRefusal fault now i blocks → IsAppendRefusal fault was flags blocks
slot_refused fault was now flags i blocks there living docs size (inl memory) = inl memory
slot_refused fault was now flags i blocks there living docs size (inr (inr (damaged, bad))) = inr (inr (damaged, (i, living, bad)))
slot_refused fault was now flags i blocks there living docs size (inr (inl (limit, (slot, has, passes)))) = inr (inl (limit, go (either_true (nat_le (2 ^ 32) (now.block_size + length slot + 8)) (nat_le max_docs (docs_of now)) passes)))
  where
    go : (nat_le (2 ^ 32) (now.block_size + length slot + 8) ≡ true) ⊎ (nat_le max_docs (docs_of now) ≡ true) → PassesStore was flags blocks
    go (inl long) = (let le = leb-true (2 ^ 32) (now.block_size + length slot + 8) long in inr (i, slot, living, has, omega (arith, le, size)))
    go (inr many) =
        let le = leb-true max_docs (docs_of now) many in
        let more = count_within i flags there living in
        inl (omega (arith, le, more, docs))

-- ---- one document more

pub one_more : (w : Written) (doc : List ℕ) → docs_of (stored w doc) ≡ docs_of w + 1
one_more w doc = go (nat_lt w.block_size (length (concat (w.pending ++ doc ∷ []))))
  where
    go : (b : Bool) → docs_of (if b then written (w.blocks ++ closed (w.pending ++ doc ∷ []) ∷ []) [] w.block_size else written w.blocks (w.pending ++ doc ∷ []) w.block_size) ≡ docs_of w + 1
    go true =
        let a = count_append w.blocks (closed (w.pending ++ doc ∷ []) ∷ []) in
        let b = length-append w.pending (doc ∷ []) in
        omega (arith, a, b)
    go false = (let b = length-append w.pending (doc ∷ []) in omega (arith, b))

pub same_size : (w : Written) (doc : List ℕ) → (stored w doc).block_size ≡ w.block_size
same_size w doc = go (nat_lt w.block_size (length (concat (w.pending ++ doc ∷ []))))
  where
    go : (b : Bool) → (if b then written (w.blocks ++ closed (w.pending ++ doc ∷ []) ∷ []) [] w.block_size else written w.blocks (w.pending ++ doc ∷ []) w.block_size).block_size ≡ w.block_size
    go true = refl
    go false = refl

-- ---- stacked blocks

pub stacked_docs : (w : Written) (blocks : List Block) → docs_of (stacked w blocks) ≡ docs_of w + count_of blocks
stacked_docs w blocks =
    let a = count_append (blocks_of w) blocks in
    let b = count_shut w.blocks w.pending in
    omega (arith, a, b)

pub all_counted : (i : ℕ) (flags : List Bool) → length flags ≤ i → count_set (take i flags) ≡ count_set flags
all_counted i flags long = ap count_set (take_whole i flags long)
