-- Laws of the scores of a term's entries.
use Rattle.std.proofs.Common.{◌*◌, ◌≤◌, List, arith, slice_index, ℕ}
use Rattle.std.proofs.Math.Nat.{mul-le-mul_left}
use Rattle.docsets.specs.Entries.{Entry, Rising}
use Rattle.definitions.proofs.Bounds.{part_below}
use Rattle.definitions.specs.Scoring.{max_score}
use Rattle.docsets.specs.ScoredEntryLaws.{Rising-rescored}
use Rattle.term_scorer.specs.TermScores.{TermSimilarity, entry_score, score_by, term_scored}

-- no score is above the boost times the weight
pub score-below : (sim : TermSimilarity) (id count : ℕ) → score_by sim id count ≤ sim.boost * sim.weight
score-below sim id count = mul-le-mul_left sim.boost (part_below sim.weight count _)

pub Rising-term : (sim : TermSimilarity) (ids : List ℕ) (es : List Entry) → sim.boost * sim.weight ≤ max_score → Rising 0 es → Rising 0 (term_scored sim ids es)
Rising-term sim ids es fits r = Rising-rescored (entry_score sim ids) 0 es r (λ e l. (let le = score-below sim (slice_index ids e.doc) e.count in omega (arith, le, fits)))
