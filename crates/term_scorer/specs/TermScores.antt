-- The scores of a term's entries.
use Rattle.std.specs.Prelude.{◌*◌, ◌+◌, List, map, slice_index, ℕ}
use Rattle.docsets.specs.Entries.{Entry}
use Rattle.definitions.specs.Scoring.{greatest_of, part}
use Rattle.docsets.specs.ScoredEntries.{rescored_by}

-- the weight of a term, the product of the boosts above, and a norm for each length id
pub record TermSimilarity : Type 0 where
  pub weight : ℕ
  pub boost : ℕ
  pub norms : List ℕ

-- the score that a count earns in a document of this length id
abbrev pub score_by : TermSimilarity → ℕ → ℕ → ℕ
score_by sim id count = sim.boost * part sim.weight count (slice_index sim.norms id)

-- the score of an entry, where each document has a length id
abbrev pub entry_score : TermSimilarity → List ℕ → Entry → ℕ
entry_score sim ids e = score_by sim (slice_index ids e.doc) e.count

-- entries with the scores that their counts and length ids earn
abbrev pub term_scored : TermSimilarity → List ℕ → List Entry → List Entry
term_scored sim ids es = rescored_by (entry_score sim ids) es

-- a number that every document is below: one more than the greatest
abbrev pub documents_bound : List Entry → ℕ
documents_bound es = greatest_of (map (λ e. e.doc + 1) es)
