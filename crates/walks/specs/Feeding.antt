-- What sinks are fed of a segment, whatever it stands for.
use Rattle.std.specs.Prelude.{◌<◌, ◌≡◌, ℕ, ℤ}
use Rattle.std.specs.List.{AllByRecursion}
use Rattle.definitions.specs.ScoredLists.{AreScoredFrom, ScoredList}
use Rattle.definitions.specs.Sinks as sinks

-- a sink has been fed documents that ascend from 0 and are all below a number, with scores up to the greatest
pub record IsFedBelow {S : Type 0} (threshold : S → ℤ) (taken : S → ℕ × ℕ → S) (before : S) (max_doc : ℕ) (after : S) : Type 0 where
  pub pairs : ScoredList
  pub ascend : AreScoredFrom 0 pairs
  pub below : AllByRecursion (λ p. p.0 < max_doc) pairs
  pub fed : after ≡ sinks.fed threshold taken before pairs
