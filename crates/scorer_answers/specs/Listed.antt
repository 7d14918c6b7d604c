-- Documents with scores as a list of numbers has them.
use Rattle.std.specs.Prelude.{List, map, pos, ℕ, ℤ}
use Rattle.definitions.specs.ScoredLists.{ScoredList}

-- each document with its score
abbrev pub signed_pairs : ScoredList → List (ℕ × ℤ)
signed_pairs ps = map (λ p. (p.0, pos p.1)) ps
