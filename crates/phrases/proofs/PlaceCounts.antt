-- Laws of how many places there are.
use Rattle.std.proofs.Common.{[], ◌+◌, ◌-◌, ◌<◌, ◌==◌, ◌∷◌, ◌≤◌, List, ap, arith, get_or, length, take, ℕ}
use Rattle.docsets.specs.Entries.{highest}
use Rattle.docsets.proofs.DistinctLaws.{length-kept}
use Rattle.definitions.specs.JsonLeaves.{once}
use Rattle.definitions.specs.Phrases.{is_reached}
use Rattle.phrases.specs.PhraseEntries.{AreColumns}
use Rattle.phrases.specs.Places.{Rises, distinct, places_of}
use Rattle.phrases.specs.MergeLaws.{Rises-distinct}
use Rattle.phrases.specs.PlaceLaws.{distinct-once}
use Rattle.phrases.specs.PlaceCountsLaws.{column-fits, highest-distinct}

rises-few : (low top : ℕ) (xs : List ℕ) → Rises low xs → highest xs < top → length xs ≤ top - low
rises-few low top [] r h = omega arith
rises-few low top (x ∷ xs) r h = (let ih = rises-few (x + 1) top xs r.1 (omega (arith, h)) in let here = r.0 in omega (arith, ih, here, h))

-- they fit 32 bits
pub places-few : (slop : ℕ) (columns : List (List ℕ)) → AreColumns columns → length (places_of slop columns) ≤ 4294967295
places-few slop columns c =
    let ps : List ℕ = get_or columns (length columns - 1) [] in
    let fits = column-fits columns (length columns - 1) c in
    let kept = length-kept (is_reached (take (length columns - 1) columns) slop) (once ◌==◌ ps) in
    let same = ap length (distinct-once 0 ps fits.0) in
    let high = highest-distinct 0 ps in
    let few = rises-few 0 4294967295 (distinct 0 ps) (Rises-distinct 0 ps) (omega (arith, high, fits.1)) in
    omega (arith, kept, same, few)
