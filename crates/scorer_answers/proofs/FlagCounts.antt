-- How many flags are set.
use Rattle.std.proofs.Common.{[], Bool, List, ap, arith, cond, count_by, false, length, refl, replicate, slice_index_or, suc, sym, true, zero, ◌&&◌, ◌+◌, ◌<◌, ◌∙◌, ◌∷◌, ◌≡◌, ◌≤◌, ℕ}
use Rattle.std.proofs.lemmas.List.Sums.{count_by-le-length, sum_by-cons}
use Rattle.common.specs.BitSets.{count_set}
use Rattle.definitions.specs.Alive.{Segment}
use Rattle.definitions.specs.Merging.{flags_of}

one_more : (flag : Bool) (flags : List Bool) → ◌≡◌ {A = ℕ} (count_set (flag ∷ flags)) (cond flag 1 0 + count_set flags)
one_more flag flags = sum_by-cons (λ f. cond f 1 0) flag flags

-- where as many are set as there are, each is
pub all_set : (flags : List Bool) → length flags ≤ count_set flags → (i : ℕ) → i < length flags → slice_index_or flags i false ≡ true
all_set [] whole i l = absurd (omega (arith, l))
all_set (true ∷ flags) whole zero l = refl
all_set (true ∷ flags) whole (suc i) l = let more = one_more true flags in all_set flags (omega (arith, whole, more)) i (omega (arith, l))
all_set (false ∷ flags) whole i l = let more = one_more false flags in let le = count_by-le-length (λ flag. flag) flags in absurd (omega (arith, whole, more, le))

pub count-replicate : (n : ℕ) → count_set (replicate n true) ≡ n
count-replicate zero = refl
count-replicate (suc n) = let ih = count-replicate n in let more = one_more true (replicate n true) in omega (arith, ih, more)

pub one_row : (flag : Bool) → ◌≡◌ {A = ℕ} (cond flag 1 0) (cond (flag && true) 1 0)
one_row true = refl
one_row false = refl

-- every row that is alive counts
pub all_rows : (rows : Segment) → count_set (flags_of rows) ≡ count_by (λ row. row.1 && true) rows
all_rows [] = refl
all_rows (row ∷ rows) =
    one_more row.1 (flags_of rows)
    ∙ (ap (λ k. cond row.1 1 0 + k) (all_rows rows)
    ∙ (ap (λ c. c + count_by (λ row. row.1 && true) rows) (one_row row.1)
    ∙ sym (sum_by-cons (λ row. cond (row.1 && true) 1 0) row rows)))
