-- Block bounds: no score in a block of postings is above the block's bound.
use Rattle.std.proofs.Common.{[], ◌&&◌, ◌*◌, ◌+◌, ◌/◌, ◌<◌, ◌==◌, ◌∷◌, ◌≡◌, ◌≤◌, Bool, List, None, Some, arith, div-mul-le_self, false, if◌then◌else◌, le-div_iff_mul-le, le_of_mul-le-mul_right, le_of_suc-le-suc, le_refl, le_trans, length, map, mul-le-mul, mul-le-mul_left, mul-le-mul_right, mul-zero, nat_le, slice_index, suc, true, zero, zero-le, ℕ}
use Rattle.std.specs.List.{AllByRecursion}
use Rattle.definitions.specs.Blocks.{block_len, bound_of, bound_score, least_of, max_bound_count}
use Rattle.definitions.specs.Reading.{below}
use Rattle.definitions.specs.Scoring.{DontFall, greatest_of, part}
use Rattle.definitions.proofs.Bounds.{part_below}
use Rattle.std.proofs.Math.Nat.{zero-div}

-- ---- norms that don't fall

-- what follows the first norm doesn't fall
pub tail_dont_fall : (n : ℕ) (ns : List ℕ) → DontFall (n ∷ ns) → DontFall ns
tail_dont_fall n [] h = tt
tail_dont_fall n (m ∷ ns) h = h.1

-- the first norm is not above another
first_norm_least : (n : ℕ) (ns : List ℕ) → DontFall (n ∷ ns) → (j : ℕ) → j < length (n ∷ ns) → n ≤ slice_index (n ∷ ns) j
first_norm_least n ns h zero lt = le_refl n
first_norm_least n [] h (suc j) lt = absurd (omega arith)
first_norm_least n (m ∷ ns) h (suc j) lt = le_trans h.0 (first_norm_least m ns h.1 j (le_of_suc-le-suc lt))

-- no norm is above one after it
pub norms_rise : (ns : List ℕ) → DontFall ns → (i j : ℕ) → i ≤ j → j < length ns → slice_index ns i ≤ slice_index ns j
norms_rise [] h i j le lt = absurd (omega arith)
norms_rise (n ∷ ns) h zero j le lt = first_norm_least n ns h j lt
norms_rise (n ∷ ns) h (suc i) zero le lt = absurd (omega arith)
norms_rise (n ∷ ns) h (suc i) (suc j) le lt = norms_rise ns (tail_dont_fall n ns h) i j (le_of_suc-le-suc le) (le_of_suc-le-suc lt)

-- ---- parts

-- the products behind two parts, crosswise
crossed : (x weight count norm more less : ℕ) → x * (count + norm) ≤ weight * count → count ≤ more → less ≤ norm → x * (more + less) * (count + norm) ≤ weight * more * (count + norm)
crossed x weight count norm more less h grow fall =
    let whole = mul-le-mul_right (more + less) h in
    let rest = mul-le-mul_left weight (mul-le-mul grow fall) in
    omega arith

-- a greater count and a norm that is not above give no smaller part
pub part_rises : (weight count norm more less : ℕ) → count ≤ more → less ≤ norm → part weight count norm ≤ part weight more less
part_rises weight zero norm more less grow fall = rw (mul-zero weight, zero-div (0 + norm)) zero-le
part_rises weight (suc count) norm more less grow fall =
    let positive : 0 < more + less = omega arith in
    let below : 0 < suc count + norm = omega arith in
    let x = weight * suc count / (suc count + norm) in
    (le-div_iff_mul-le positive).1 (le_of_mul-le-mul_right (crossed x weight (suc count) norm more less (div-mul-le_self (weight * suc count) (suc count + norm)) grow fall) below)

-- ---- blocks

-- a number that is not above the least of numbers is not above each
each_not_below : (m : ℕ) (ns : List ℕ) → m ≤ least_of ns → AllByRecursion (λ n. m ≤ n) ns
each_not_below m [] h = tt
each_not_below m (n ∷ []) h = (h, tt)
each_not_below m (n ∷ n2 ∷ ns) h = (omega arith, each_not_below m (n2 ∷ ns) (omega arith))

-- the part with the least length id and the greatest count is not below the others
each_part_below : (weight : ℕ) (norms : List ℕ) → DontFall norms → (least most : ℕ) (ps : List (ℕ × ℕ)) → AllByRecursion (λ id. least ≤ id) (map (λ p. p.0) ps) → greatest_of (map (λ p. p.1) ps) ≤ most → AllByRecursion (λ p. p.0 < length norms) ps → AllByRecursion (λ p. part weight p.1 (slice_index norms p.0) ≤ part weight most (slice_index norms least)) ps
each_part_below weight norms dont_fall least most [] above below ids = tt
each_part_below weight norms dont_fall least most (p ∷ ps) above below ids = (
  part_rises weight p.1 (slice_index norms p.0) most (slice_index norms least) (omega arith) (norms_rise norms dont_fall least p.0 above.0 ids.0),
  each_part_below weight norms dont_fall least most ps above.1 (omega arith) ids.1,
)

-- what is not above something, times a boost
boosted : (b weight : ℕ) (norms : List ℕ) (most : ℕ) (ps : List (ℕ × ℕ)) → AllByRecursion (λ p. part weight p.1 (slice_index norms p.0) ≤ most) ps → AllByRecursion (λ p. b * part weight p.1 (slice_index norms p.0) ≤ b * most) ps
boosted b weight norms most [] h = tt
boosted b weight norms most (p ∷ ps) h = (mul-le-mul_left b h.0, boosted b weight norms most ps h.1)

-- no part is above the weight
each_part_below_weight : (weight : ℕ) (norms : List ℕ) (ps : List (ℕ × ℕ)) → AllByRecursion (λ p. part weight p.1 (slice_index norms p.0) ≤ weight) ps
each_part_below_weight weight norms [] = tt
each_part_below_weight weight norms (p ∷ ps) = (part_below weight p.1 (slice_index norms p.0), each_part_below_weight weight norms ps)

-- no part is above the bound, whether there is one or not
below_either : (bounded : Bool) (b weight : ℕ) (norms : List ℕ) → DontFall norms → (ps : List (ℕ × ℕ)) → AllByRecursion (λ p. p.0 < length norms) ps → AllByRecursion (λ p. b * part weight p.1 (slice_index norms p.0) ≤ bound_score b weight norms (if bounded then Some (least_of (map (λ p. p.0) ps), greatest_of (map (λ p. p.1) ps)) else None)) ps
below_either true b weight norms dont_fall ps ids =
    boosted b weight norms _ ps (each_part_below weight norms dont_fall (least_of (map (λ p. p.0) ps)) (greatest_of (map (λ p. p.1) ps)) ps (each_not_below _ (map (λ p. p.0) ps) (le_refl (least_of (map (λ p. p.0) ps)))) (le_refl (greatest_of (map (λ p. p.1) ps))) ids)
below_either false b weight norms dont_fall ps ids = boosted b weight norms weight ps (each_part_below_weight weight norms ps)

-- ids below as many as there are norms
ids_within : (n : ℕ) (norms : List ℕ) → length norms ≡ n → (ps : List (ℕ × ℕ)) → AllByRecursion (λ p. p.0 < n) ps → AllByRecursion (λ p. p.0 < length norms) ps
ids_within n norms e [] h = tt
ids_within n norms e (p ∷ ps) h = (omega arith, ids_within n norms e ps h.1)

-- no part of a block is above the block's bound
pub each_below_bound : (b weight : ℕ) (norms : List ℕ) (ps : List (ℕ × ℕ)) → DontFall norms → length norms ≡ 256 → AllByRecursion (λ p. p.0 < 256) ps → AllByRecursion (λ p. b * part weight p.1 (slice_index norms p.0) ≤ bound_score b weight norms (bound_of ps)) ps
each_below_bound b weight norms ps dont_fall many ids = below_either ((length ps == block_len) && nat_le (greatest_of (map (λ p. p.1) ps)) max_bound_count) b weight norms dont_fall ps (ids_within 256 norms many ps ids)
