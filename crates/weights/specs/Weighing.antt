-- Queries that weights can score.
use Rattle.std.specs.Prelude.{ℕ}
use Rattle.definitions.specs.Query.{Query}
use Rattle.definitions.specs.Scoring.{Similarity}
use Rattle.query_scorers.specs.Accepted.{IsAccepted}

-- by one of these similarities a query is not refused under a boost
abbrev pub IsWeighed : (Similarity → Type 0) → ℕ → Query → Type 0
IsWeighed scores_by b q = ∥ ((sim : Similarity) × scores_by sim × IsAccepted sim.weight b q) ∥₁
