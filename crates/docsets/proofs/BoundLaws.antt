-- Laws of bounds.
use Rattle.std.proofs.Common.{[], ◌+◌, ◌<◌, ◌∷◌, ◌≤◌, List, arith, sym, ℕ}
use Rattle.std.specs.Prelude.{pos, ◌≤ℤ◌, ℤ}
use Rattle.std.specs.List.{AllByRecursion}
use Rattle.definitions.specs.Scoring.{max_score}
use Rattle.docsets.proofs.EntryLaws.{from-first}
use Rattle.docsets.specs.Bounds.{Covers, PassesLow}
use Rattle.docsets.specs.Entries.{Entry, Rising, first}

-- the greatest score is a bound of all
pub covers-all : (target until low : ℕ) (es : List Entry) → Rising low es → Covers target until max_score es
covers-all target until low [] r = tt
covers-all target until low (e ∷ es) r = ((λ a b. r.2), covers-all target until (e.doc + 1) es r.3)

-- nothing is below where a list begins
pub none_below : (P : Entry → Type 0) (n low : ℕ) (es : List Entry) → n ≤ low → Rising low es → AllByRecursion (λ e. e.doc < n → P e) es
none_below P n low [] l r = tt
none_below P n low (e ∷ es) l r = ((λ below. absurd (omega (arith, l, below, r.0))), none_below P n (e.doc + 1) es (omega (arith, l, r.0)) r.3)

-- a cursor that stays passes nothing
pub passes_none : (threshold : ℤ) (low : ℕ) (es : List Entry) → Rising low es → PassesLow threshold es es
passes_none threshold low es r = record { rest = sym (from-first (first es) low es (omega arith) r); low = passed es r }
  where
    passed : (xs : List Entry) → Rising low xs → AllByRecursion (λ e. e.doc < first xs → pos e.score ≤ℤ threshold) xs
    passed [] h = tt
    passed (e ∷ xs) h = ((λ below. absurd (omega (arith, below))), none_below (λ e. pos e.score ≤ℤ threshold) e.doc (e.doc + 1) xs (omega arith) h.3)
