-- The greatest id is the one below the first that is too long.
use Rattle.std.proofs.Common.{◌+◌, ◌<◌, ◌⊎◌, ◌≡◌, ◌≤◌, arith, get_or, inl, inr, nat_eq, le_antisymm, le_refl, le_trans, not-le_of_lt, refl, true, ℕ}
use Rattle.std.proofs.lemmas.Bool.{agree_below_at, cases_lt}
use Rattle.definitions.proofs.Lists.{nat_same as same_number}
use Rattle.definitions.specs.Lengths.{fieldnorm_to_id, greatest_id, id_to_fieldnorm}
use Rattle.codes.specs.declared.fieldnorm_code.TheConstants.{FIELD_NORMS_TABLE}
use Rattle.definitions.proofs.LengthIds.{greatest_id_fits, greatest_id_greatest, greatest_id_within, lengths_rise}

-- each index of the table has the length of its id
pub the_table : (id : ℕ) → id < 256 → get_or FIELD_NORMS_TABLE id 0 ≡ id_to_fieldnorm id
the_table id h = same_number _ _ (agree_below_at (λ i. nat_eq (get_or FIELD_NORMS_TABLE i 0) (id_to_fieldnorm i)) (λ i. true) 256 id refl h)

-- an id whose length isn't above the number is the greatest where the next one's is, or it is the last
pub next_too_long : (n id : ℕ) → id ≤ 255 → id_to_fieldnorm id ≤ n → (id < 255 → n < id_to_fieldnorm (id + 1)) → fieldnorm_to_id n ≡ id
next_too_long n id last fits long = le_antisymm (up (cases_lt id (greatest_id 255 n))) (greatest_id_greatest 255 n id last fits)
  where
    too_long : id < greatest_id 255 n → ⊥
    too_long above =
        let within = greatest_id_within 255 n in
        let next : n < id_to_fieldnorm (id + 1) = long (omega arith) in
        not-le_of_lt next (le_trans (rising (cases_lt (id + 1) (greatest_id 255 n))) (greatest_id_fits 255 n))
      where
        rising : (id + 1 < greatest_id 255 n) ⊎ (greatest_id 255 n ≤ id + 1) → id_to_fieldnorm (id + 1) ≤ id_to_fieldnorm (greatest_id 255 n)
        rising (inl below) = (let less = lengths_rise (id + 1) (greatest_id 255 n) below (greatest_id_within 255 n) in omega arith)
        rising (inr beyond) = (let same : id + 1 ≡ greatest_id 255 n = omega arith in rw same (le_refl _))

    up : (id < greatest_id 255 n) ⊎ (greatest_id 255 n ≤ id) → greatest_id 255 n ≤ id
    up (inl above) = absurd (too_long above)
    up (inr beyond) = beyond
