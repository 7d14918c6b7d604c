-- The best documents of segments, each with its score.
use Rattle.std.specs.Prelude.{[], ◌<◌, ◌≡◌, ◌≤◌, Bool, List, false, length, slice_index_or, true, ℕ}
use Rattle.best_k.specs.Kept.{ScoredAddress, best_by}
use Rattle.definitions.specs.Scoring.{max_score}
use Rattle.segment_definitions.specs.Found.{Place}

-- the address of a document that was found
abbrev pub address_of : ScoredAddress → Place
address_of found = record { segment = found.1; doc = found.2; score = found.0 }

-- the best addresses, `limit` at most: by score, and of equal scores the earlier
abbrev pub best_addresses : ℕ → List Place → List Place
best_addresses limit addresses = best_by (λ p. p.score) limit addresses

-- a document that is alive by the flags of the segments, with a score in range
abbrev pub IsFound : List (List Bool) → ScoredAddress → Type 0
IsFound sets found = (found.1 < length sets) × (found.0 ≤ max_score) × (slice_index_or (slice_index_or sets found.1 []) found.2 false ≡ true)
