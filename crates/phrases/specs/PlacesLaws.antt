-- Laws of places as one column.
use Rattle.std.proofs.Common.{[], ◌+◌, ◌-◌, ◌<◌, ◌==◌, ◌∷◌, ◌≤◌, Bool, List, ap, arith, false, filter, get_or, if◌then◌else◌, length, max, refl, subst, suc, sym, take, true, zero, ℕ}
use Rattle.docsets.specs.Entries.{Entry, highest}
use Rattle.docsets.proofs.DistinctLaws.{length-kept}
use Rattle.definitions.specs.JsonLeaves.{once}
use Rattle.definitions.specs.Phrases.{is_reached}
use Rattle.definitions.specs.Scoring.{DontFall}
use Rattle.intersections.specs.Columns.{HaveOneColumn}
use Rattle.definitions.proofs.Lists.{by_order}
use Rattle.phrases.specs.PhraseEntries.{AreColumns, HaveColumns, longest, phrased}
use Rattle.phrases.specs.PhraseEntryLaws.{phrased-none, phrased-some}
use Rattle.phrases.specs.Places.{Rises, distinct, places_of}
use Rattle.phrases.specs.MergeLaws.{Rises-distinct, length-distinct}
use Rattle.phrases.specs.PlaceCountsLaws.{column-fits, highest-distinct}
use Rattle.phrases.specs.PlaceLaws.{Rises-filter, distinct-once}

rising-falls : (low p : ℕ) (ps : List ℕ) → Rises low (p ∷ ps) → DontFall (p ∷ ps)
rising-falls low p [] r = tt
rising-falls low p (q ∷ qs) r = ((let up = r.1.0 in omega (arith, up)), rising-falls (p + 1) q qs r.1)

falls : (ps : List ℕ) → Rises 0 ps → DontFall ps
falls [] r = tt
falls (p ∷ ps) r = rising-falls 0 p ps r

highest-kept : (f : ℕ → Bool) (xs : List ℕ) → highest (filter f xs) ≤ highest xs
highest-kept f [] = omega arith
highest-kept f (x ∷ xs) = (let ih = highest-kept f xs in elim (f x) as (λ b. highest (if b then x ∷ filter f xs else filter f xs) ≤ highest (x ∷ xs)) [ true ↦ (let goal : max x (highest (filter f xs)) ≤ max x (highest xs) = omega (arith, ih) in goal) | false ↦ (let goal : highest (filter f xs) ≤ max x (highest xs) = omega (arith, ih) in goal) ])

pub length-column : (columns : List (List ℕ)) (i : ℕ) → length (get_or columns i []) ≤ longest columns
length-column [] i = omega arith
length-column (ps ∷ columns) zero = omega arith
length-column (ps ∷ columns) (suc i) = (let ih = length-column columns i in omega (arith, ih))

-- places are a column, no longer than those that they come from
pub places-column : (slop : ℕ) (columns : List (List ℕ)) → AreColumns columns → DontFall (places_of slop columns) × (highest (places_of slop columns) < 4294967295) × (length (places_of slop columns) ≤ longest columns)
places-column slop columns c =
    let ps : List ℕ = get_or columns (length columns - 1) [] in
    let f : ℕ → Bool = is_reached (take (length columns - 1) columns) slop in
    let fits = column-fits columns (length columns - 1) c in
    let same = distinct-once 0 ps fits.0 in
    let rises : Rises 0 (filter f (once ◌==◌ ps)) = subst (λ xs. Rises 0 (filter f xs)) same (Rises-filter f 0 (distinct 0 ps) (Rises-distinct 0 ps)) in
    let high = highest-kept f (once ◌==◌ ps) in
    let high_same = ap highest same in
    let high_distinct = highest-distinct 0 ps in
    let kept = length-kept f (once ◌==◌ ps) in
    let long_same = ap length same in
    let long_distinct = length-distinct 0 ps in
    let long = length-column columns (length columns - 1) in
    (falls (places_of slop columns) rises, omega (arith, high, high_same, high_distinct, fits.1), omega (arith, kept, long_same, long_distinct, long))

pub one_column-phrased : (score : ℕ → ℕ → ℕ) (slop : ℕ) (es : List Entry) → HaveColumns es → HaveOneColumn (phrased score slop es)
one_column-phrased score slop [] h = tt
one_column-phrased score slop (e ∷ es) h =
    let rest = one_column-phrased score slop es h.2 in
    let column = places-column slop e.positions h.1 in
    by_order 1 (length (places_of slop e.positions)) (HaveOneColumn (phrased score slop (e ∷ es)))
    (λ some. subst HaveOneColumn (sym (phrased-some score slop e es (omega (arith, some)))) (refl, column.0, column.1, rest))
    (λ none. subst HaveOneColumn (sym (phrased-none score slop e es (omega (arith, none)))) rest)
