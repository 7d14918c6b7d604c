-- Bounds of the scores of entries.
use Rattle.std.specs.Prelude.{◌<◌, ◌≡◌, ◌≤ℤ◌, ◌≤◌, List, pos, ℕ, ℤ}
use Rattle.std.specs.List.{AllByRecursion}
use Rattle.docsets.specs.Entries.{Entry, first, from}

-- no score of a document from `target` on up to `until` is above a bound
abbrev pub Covers : ℕ → ℕ → ℕ → List Entry → Type 0
Covers target until bound es = AllByRecursion (λ e. target ≤ e.doc → e.doc < until → e.score ≤ bound) es

-- a cursor moves to a document, and none that it passes has a score above a threshold
pub record PassesLow (threshold : ℤ) (before after : List Entry) : Type 0 where
  pub rest : after ≡ from (first after) before
  pub low : AllByRecursion (λ e. e.doc < first after → pos e.score ≤ℤ threshold) before
