-- Entries that have a document and a score alone, and entries whose scores are changed.
use Rattle.std.specs.Prelude.{[], ⊤, ◌+◌, ◌<◌, ◌∷◌, ◌≤◌, ◌≤ℤ◌, List, map, pos, ℕ, ℤ}
use Rattle.std.specs.List.{range_with_len}
use Rattle.docsets.specs.Entries.{Entry}
use Rattle.definitions.specs.Postings.{terminated}
use Rattle.definitions.specs.ScoredLists.{ScoredList, each_scoring}
use Rattle.definitions.specs.Scoring.{greatest_of, max_score, natural}

-- an entry for each document with its score
abbrev pub scored : ScoredList → List Entry
scored [] = []
scored (p ∷ ps) = record { doc = p.0; score = p.1; count = 0; positions = [] } ∷ scored ps

-- documents with their scores
abbrev pub pairs_of : List Entry → ScoredList
pairs_of es = map (λ e. (e.doc, e.score)) es

-- entries, each with the score that a function makes of it
abbrev pub rescored_by : (Entry → ℕ) → List Entry → List Entry
rescored_by f [] = []
rescored_by f (e ∷ es) = record e { score = f e } ∷ rescored_by f es

-- the greatest score, and 0 of none
abbrev pub greatest_score : List Entry → ℕ
greatest_score es = greatest_of (map (λ e. e.score) es)

-- documents with scores that aren't negative
abbrev pub naturals : List (ℕ × ℤ) → ScoredList
naturals ps = map (λ p. (p.0, natural p.1)) ps

-- the documents ascend from one on, each once, up to where cursors end, with scores from 0 to the greatest
abbrev pub AreScores : ℕ → List (ℕ × ℤ) → Type 0
AreScores least [] = ⊤
AreScores least (p ∷ ps) = (least ≤ p.0) × (p.0 < terminated) × (pos 0 ≤ℤ p.1) × (p.1 ≤ℤ pos max_score) × AreScores (p.0 + 1) ps

-- `count` documents from one on, each with score 1
abbrev pub all_from : ℕ → ℕ → List Entry
all_from doc count = scored (each_scoring 1 (range_with_len doc count))
