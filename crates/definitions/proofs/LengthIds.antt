-- Length ids: the greatest id whose length isn't above a number.
use Rattle.std.proofs.Common.{◌<◌, ◌≤◌, arith, eq-or-lt_of_le, inl, inr, le_of_suc-le-suc, le_refl, le_trans, lt_trans, nat_le, nat_lt, not-le_of_lt, refl, subst, suc, sym, true, zero, zero-le, ℕ}
use Rattle.definitions.specs.Lengths.{greatest_id, id_to_fieldnorm}
use Rattle.definitions.specs.Reading.{below}
use Rattle.std.proofs.lemmas.Bool.{agree_below_at, cond_both, leb-true, leb-false, ltb-true}

-- the length of the greatest id isn't above the number
pub greatest_id_fits : (limit n : ℕ) → id_to_fieldnorm (greatest_id limit n) ≤ n
greatest_id_fits zero n = zero-le
greatest_id_fits (suc i) n = cond_both (nat_le (id_to_fieldnorm (suc i)) n) (suc i) (greatest_id i n) (λ id. id_to_fieldnorm id ≤ n) (λ e. leb-true (id_to_fieldnorm (suc i)) n e) (λ e. greatest_id_fits i n)

-- the greatest id isn't above the limit
pub greatest_id_within : (limit n : ℕ) → greatest_id limit n ≤ limit
greatest_id_within zero n = le_refl 0
greatest_id_within (suc i) n = cond_both (nat_le (id_to_fieldnorm (suc i)) n) (suc i) (greatest_id i n) (λ id. id ≤ suc i) (λ e. le_refl (suc i)) (λ e. le_trans (greatest_id_within i n) (omega arith))

-- an id up to the limit that isn't the next one, since that one is too long
shorter : (i limit n : ℕ) → i ≤ suc limit → id_to_fieldnorm i ≤ n → n < id_to_fieldnorm (suc limit) → i ≤ limit
shorter i limit n le fits long = elim (eq-or-lt_of_le le) [ inl e ↦ absurd (not-le_of_lt long (subst (λ j. id_to_fieldnorm j ≤ n) e fits)) | inr lt ↦ le_of_suc-le-suc lt ]

-- no id up to the limit whose length isn't above the number is greater
pub greatest_id_greatest : (limit n i : ℕ) → i ≤ limit → id_to_fieldnorm i ≤ n → i ≤ greatest_id limit n
greatest_id_greatest zero n i le fits = le
greatest_id_greatest (suc limit) n i le fits = cond_both (nat_le (id_to_fieldnorm (suc limit)) n) (suc limit) (greatest_id limit n) (λ id. i ≤ id) (λ e. le) (λ e. greatest_id_greatest limit n i (shorter i limit n le fits (leb-false _ _ e)) fits)

-- each length is below the next
next_rises : (i : ℕ) → i < 255 → id_to_fieldnorm i < id_to_fieldnorm (suc i)
next_rises i h = ltb-true _ _ (agree_below_at (λ id. nat_lt (id_to_fieldnorm id) (id_to_fieldnorm (suc id))) (λ id. true) 255 i refl h)

-- of two ids the smaller has the smaller length
pub lengths_rise : (i j : ℕ) → i < j → j ≤ 255 → id_to_fieldnorm i < id_to_fieldnorm j
lengths_rise i zero lt le = absurd (omega arith)
lengths_rise i (suc j) lt le = elim (eq-or-lt_of_le (le_of_suc-le-suc lt)) [ inl e ↦ subst (λ k. id_to_fieldnorm k < id_to_fieldnorm (suc j)) (sym e) (next_rises j le) | inr below ↦ lt_trans (lengths_rise i j below (omega arith)) (next_rises j le) ]
