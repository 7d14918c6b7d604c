-- What a cursor answers that was asked for a document, and where it then stands.
use Rattle.std.specs.Prelude.{◌<◌, ◌≡◌, ◌≤◌, List, ℕ}
use Rattle.docsets.specs.Entries.{Entry, IsRest, first, from}
use Rattle.docsets.specs.declared.seek_danger_result.SeekDangerResult.{SeekDangerResult}
use Rattle.docsets.specs.declared.seek_danger_result.SeekDangerResult.TheVariants.{Found, SeekLowerBound}

-- the document doesn't remain: nothing from it on stands before a bound above it, and what remains is a rest
-- that has everything from it on
pub record Missed (t bound : ℕ) (before after : List Entry) : Type 0 where
  pub above : t < bound
  pub before_next : bound ≤ first (from t before)
  pub rest : IsRest after before
  pub kept : from t after ≡ from t before

-- the cursor stands on the document, or it was missed
abbrev pub IsDangerAnswer : SeekDangerResult → ℕ → List Entry → List Entry → Type 0
IsDangerAnswer Found t before after = (first after ≡ t) × (after ≡ from t before)
IsDangerAnswer (SeekLowerBound bound) t before after = Missed t bound before after
