-- Laws of a phrase of one whole term.
use Rattle.std.proofs.Common.{[], ◌<◌, ◌∷◌, ◌≡◌, ◌≤◌, List, ap, arith, false, if◌then◌else◌, nat_le, refl, true, ℕ}
use Rattle.docsets.specs.Entries.{AreSingle, Entry, first, first_positions, first_score, from, most_positions, single}
use Rattle.definitions.specs.Postings.{terminated}
use Rattle.phrases.specs.MergeLaws.{ascends-from}
use Rattle.phrases.specs.PlacesLaws.{places-column}
use Rattle.phrases.specs.Places.{places_of}
use Rattle.phrases.specs.PrefixEntries.{one_term}
use Rattle.phrases.specs.OneTermLaws.{place_of}

pub first-one_term : (score : ℕ) (es : List Entry) → first (one_term score es) ≡ first es
first-one_term score [] = refl
first-one_term score (e ∷ es) = refl

pub from-one_term : (score t : ℕ) (es : List Entry) → from t (one_term score es) ≡ one_term score (from t es)
from-one_term score t [] = refl
from-one_term score t (e ∷ es) = (let ih = from-one_term score t es in elim (nat_le t e.doc) as (λ b. (if b then place_of score e ∷ from t (one_term score es) else from t (one_term score es)) ≡ one_term score (if b then e ∷ from t es else from t es)) [ true ↦ ap (λ xs. place_of score e ∷ xs) ih | false ↦ ih ])

pub most-one_term : (score : ℕ) (es : List Entry) → AreSingle es → most_positions (one_term score es) ≤ most_positions es
most-one_term score [] s = omega arith
most-one_term score (e ∷ es) s = (let ih = most-one_term score es s.3 in let column = places-column 0 (single e.positions ∷ []) (ascends-from (single e.positions) s.1, (let high = s.2 in omega (arith, high)), tt) in omega (arith, ih, column.2))

pub first_score-one_term : (score : ℕ) (es : List Entry) → first es < terminated → first_score (one_term score es) ≡ score
first_score-one_term score [] l = absurd (omega (arith, l))
first_score-one_term score (e ∷ es) l = refl

pub positions-one_term : (score : ℕ) (es : List Entry) → first es < terminated → single (first_positions (one_term score es)) ≡ places_of 0 (single (first_positions es) ∷ [])
positions-one_term score [] l = absurd (omega (arith, l))
positions-one_term score (e ∷ es) l = refl
