-- Laws of places as one column.
use Rattle.std.proofs.Common.{[], ◌∷◌, ◌≤◌, List, ap, arith, length, ℕ}
use Rattle.docsets.specs.Entries.{Entry, most_positions}
use Rattle.definitions.proofs.Lists.{by_order}
use Rattle.phrases.specs.PhraseEntries.{HaveColumns, longest_column, phrased}
use Rattle.phrases.specs.PhraseEntryLaws.{phrased-none, phrased-some}
use Rattle.phrases.specs.Places.{places_of}
use Rattle.phrases.specs.PlacesLaws.{places-column}

pub most-phrased : (score : ℕ → ℕ → ℕ) (slop : ℕ) (es : List Entry) → HaveColumns es → most_positions (phrased score slop es) ≤ longest_column es
most-phrased score slop [] h = omega arith
most-phrased score slop (e ∷ es) h =
    let rest = most-phrased score slop es h.2 in
    let column = places-column slop e.positions h.1 in
    by_order 1 (length (places_of slop e.positions)) (most_positions (phrased score slop (e ∷ es)) ≤ longest_column (e ∷ es))
    (λ some. (let is = ap most_positions (phrased-some score slop e es (omega (arith, some))) in omega (arith, is, rest, column.2)))
    (λ none. (let is = ap most_positions (phrased-none score slop e es (omega (arith, none))) in omega (arith, is, rest)))
