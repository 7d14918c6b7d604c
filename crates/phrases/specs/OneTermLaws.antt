-- Laws of a phrase of one whole term.
use Rattle.std.proofs.Common.{[], ◌+◌, ◌∷◌, ◌≤◌, List, arith, length, refl, ℕ}
use Rattle.docsets.specs.Entries.{AreSingle, Entry, Rising, single}
use Rattle.definitions.specs.Scoring.{max_score}
use Rattle.intersections.specs.Columns.{HaveOneColumn}
use Rattle.phrases.specs.MergeLaws.{ascends-from}
use Rattle.phrases.specs.PlacesLaws.{places-column}
use Rattle.phrases.specs.Places.{places_of}
use Rattle.phrases.specs.PrefixEntries.{one_term}

-- an entry with its places
abbrev pub place_of : ℕ → Entry → Entry
place_of score e = record { doc = e.doc; score = score; count = length (places_of 0 (single e.positions ∷ [])); positions = places_of 0 (single e.positions ∷ []) ∷ [] }

pub Rising-one_term : (score low : ℕ) (es : List Entry) → score ≤ max_score → Rising low es → Rising low (one_term score es)
Rising-one_term score low [] small r = tt
Rising-one_term score low (e ∷ es) small r = (r.0, r.1, small, Rising-one_term score (e.doc + 1) es small r.3)

pub one_column-one_term : (score : ℕ) (es : List Entry) → AreSingle es → HaveOneColumn (one_term score es)
one_column-one_term score [] s = tt
one_column-one_term score (e ∷ es) s = (let column = places-column 0 (single e.positions ∷ []) (ascends-from (single e.positions) s.1, (let high = s.2 in omega (arith, high)), tt) in (refl, column.0, column.1, one_column-one_term score es s.3))
