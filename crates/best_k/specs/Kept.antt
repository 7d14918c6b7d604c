-- The best hits of the documents of segments.
use Rattle.std.specs.Prelude.{[], ◌++◌, ◌<◌, ◌∷◌, Bool, List, false, if◌then◌else◌, length, map, nat_lt, negsuc, pos, slice_index_or, take, ◌^◌, ℕ, ℤ}
use Rattle.std.specs.List.{AllByRecursion}
use Rattle.definitions.specs.Answers.{living_answers}
use Rattle.definitions.specs.Blocks.{least_of}
use Rattle.definitions.specs.Scanning.{ranked}
use Rattle.definitions.specs.ScoredLists.{ScoredList}
use Rattle.definitions.specs.Scoring.{max_score}

-- the best by a key, `limit` at most, and of equal keys the earlier
abbrev pub best_by : {X : Type 0} → (X → ℕ) → ℕ → List X → List X
best_by key limit xs = take limit (ranked key xs)

-- a score, a segment's number, and a document of that segment
abbrev pub ScoredAddress : Type 0
ScoredAddress = ℕ × ℕ × ℕ

-- its score
abbrev pub score_of : ScoredAddress → ℕ
score_of found = found.0

-- the score at an index
abbrev pub score_at : List ScoredAddress → ℕ → ℕ
score_at hits i = score_of (slice_index_or hits i (0, 0, 0))

-- the hits that are kept, the best first, how many are wanted, the segment whose documents come, and which of them live
pub record Best : Type 0 where
  pub hits : List ScoredAddress
  pub wanted : ℕ
  pub segment : ℕ
  pub alive : List Bool

-- the least score; the greatest there is of none
abbrev pub least_kept : List ScoredAddress → ℕ
least_kept [] = max_score
least_kept (h ∷ hs) = least_of (map score_of (h ∷ hs))

-- the threshold: none is below it while fewer are kept than wanted, then it is the least score that is kept
abbrev pub limit : Best → ℤ
limit b = if nat_lt (length b.hits) b.wanted then negsuc 0 else pos (least_kept b.hits)

-- the best with one more document
abbrev pub hits_with : Best → ℕ × ℕ → List ScoredAddress
hits_with b p = best_by score_of b.wanted (b.hits ++ (p.1, b.segment, p.0) ∷ [])

-- after a document with its score: a dead one changes nothing
abbrev pub taken : Best → ℕ × ℕ → Best
taken b p = if slice_index_or b.alive p.0 false then record b { hits = hits_with b p } else b

-- the living documents of a segment with their scores
abbrev pub living_in : ℕ → List Bool → ScoredList → List ScoredAddress
living_in segment alive ps = map (λ p. (p.1, segment, p.0)) (living_answers alive ps)

-- scores of 63 bits
abbrev pub AreSigned : List ScoredAddress → Type 0
AreSigned hits = AllByRecursion (λ h. score_of h < 2 ^ 63) hits
