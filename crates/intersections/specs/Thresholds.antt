-- Documents that are known to earn low scores by the columns of their positions.
use Rattle.std.specs.Prelude.{[], ◌+◌, ◌<◌, ◌≡◌, ◌≤ℤ◌, ◌≤◌, Bool, List, flat_map, length, map, pos, slice_index_or, true, ℕ, ℤ}
use Rattle.definitions.specs.Postings.{terminated}
use Rattle.docsets.specs.Entries.{Entry, from}
use Rattle.docsets.specs.Members.{entries_at}

-- the columns of a document that several lists have
abbrev pub columns_at : ℕ → List (List Entry) → List (List ℕ)
columns_at d ess = flat_map (λ e. e.positions) (entries_at d ess)

-- no columns earn a document more than `limit`, where one of them has at most `most` positions: the last, if `is_last`
abbrev pub EarnLow : (ℕ → List (List ℕ) → ℕ) → ℤ → ℕ → Bool → ℕ → Type 0
EarnLow score limit d is_last most = (columns : List (List ℕ)) (index : ℕ) → index < length columns → (is_last ≡ true → index + 1 ≡ length columns) → length (slice_index_or columns index []) ≤ most → pos (score d columns) ≤ℤ limit

-- lists go on from one document to another: what comes from that one on stays, and what all have of those that are
-- passed earns no more than a limit
pub record PassLow (score : ℕ → List (List ℕ) → ℕ) (limit : ℤ) (low high : ℕ) (before after : List (List Entry)) : Type 0 where
  pub up : low ≤ high
  pub small : high ≤ terminated
  pub long : length after ≡ length before
  pub kept : map (from high) after ≡ map (from high) before
  pub passed : (d : ℕ) → low ≤ d → d < high → length before ≤ length (entries_at d before) → pos (score d (columns_at d before)) ≤ℤ limit
