-- The positions of documents, one each.
use Rattle.std.proofs.Common.{[], List, ap, ap₂, arith, length, sym, ◌++◌, ◌-◌, ◌<◌, ◌≡◌, ◌∙◌, ◌∷◌, ◌^◌, ℕ}
use Rattle.std.proofs.lemmas.Grind.{flat_map-append}
use Rattle.std.proofs.lemmas.List.{map-append}
use Rattle.definitions.proofs.Lists.{all_append}
use Rattle.layouts.specs.Positions.{differences}
use Rattle.segment_postings.specs.TermEntries.{HasPositions, IsPlaced}

-- one document more
pub one_more : (counts : List ℕ) (lists : List (List ℕ)) (numbers : List ℕ) (p : ℕ) → HasPositions counts lists numbers → p < 2 ^ 31 → HasPositions (counts ++ 1 ∷ []) (lists ++ (p ∷ []) ∷ []) (numbers ++ p ∷ [])
one_more counts lists numbers p has small =
    let first : p ≡ p - 0 = omega arith in
    record {
      counted = map-append length lists ((p ∷ []) ∷ []) ∙ ap (λ ns. ns ++ 1 ∷ []) has.counted;
      placed = all_append IsPlaced lists ((p ∷ []) ∷ []) has.placed ((tt, omega (arith, small)), tt);
      numbers_are = ap₂ (λ ns n. ns ++ n ∷ []) has.numbers_are first ∙ sym (flat_map-append (differences 0) lists ((p ∷ []) ∷ []));
    }
