-- How many flags are set is a number of 32 bits, as that of the documents is.
use Rattle.std.proofs.Common.{Bool, List, None, Option, Some, ap, arith, length, ◌<◌, ◌^◌, ◌≡◌, ℕ}
use Rattle.std.proofs.lemmas.List.Sums.{count_by-le-length}
use Rattle.std.specs.Option.{option_map_or}
use Rattle.common.specs.BitSets.{count_set}
use Rattle.segment_reader.specs.Flags.{HasFlags}

pub alive_fit : (n : ℕ) (o : Option (List Bool)) (flags : List Bool) → HasFlags n o → o ≡ Some flags → n < 2 ^ 32 → count_set flags < 2 ^ 32
alive_fit n None flags has e small = absurd (let no : ⊥ = cc in no)
alive_fit n (Some fs) flags has e small =
    let same : length fs ≡ length flags = ap (λ o. option_map_or length o 0) e in
    let le = count_by-le-length (λ flag. flag) flags in
    omega (arith, has, same, le, small)
