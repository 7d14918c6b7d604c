-- How many blocks of postings a search for one term decodes.
use Rattle.std.specs.Prelude.{[], ◌+◌, ◌-◌, ◌^◌, ◌≡◌, ◌∷◌, List, ℕ}
use Rattle.best_k.specs.Kept.{Best, limit, taken}
use Rattle.definitions.specs.Alive.{Segment}
use Rattle.definitions.specs.Analyzers.{Analyzer}
use Rattle.definitions.specs.Answers.{answers}
use Rattle.definitions.specs.Merging.{documents_in, flags_of}
use Rattle.definitions.specs.Query.{Query, term}
use Rattle.definitions.specs.Schema.{IndexRecordOption, Schema}
use Rattle.definitions.specs.Scoring.{Similarity}
use Rattle.definitions.specs.Sinks.{fed}
use Rattle.definitions.specs.TermBlocks.{scored_blocks}
use Rattle.leaf_weights.specs.DecodedBlocks.{decoded_for}

-- a query that is one term
abbrev pub IsTermQuery : Query → Type 0
IsTermQuery q = (t : List ℕ) × (option : IndexRecordOption) × (q ≡ term t option)

-- nothing is kept yet of the best, `k` at most
abbrev pub nothing_kept : ℕ → Best
nothing_kept k = record { hits = []; wanted = k; segment = 0; alive = [] }

-- the hits that are kept, before the documents of a segment
abbrev pub at_segment : ℕ → Segment → Best → Best
at_segment ord rows b = record b { segment = ord; alive = flags_of rows }

-- what is kept after the documents of a segment that hold a term
abbrev pub after_term : Schema → Analyzer → Similarity → List ℕ → IndexRecordOption → ℕ → Segment → Best → Best
after_term schema analyze sim t option ord rows b = fed limit taken (at_segment ord rows b) (answers schema analyze sim 1 (term t option) (documents_in rows))

-- how many blocks of their postings are decoded: of each segment in turn what its documents come to, over what is kept of
-- the segments before it
abbrev pub blocks_decoded : Schema → Analyzer → Similarity → List ℕ → IndexRecordOption → Best → ℕ → List Segment → ℕ
blocks_decoded schema analyze sim t option b ord [] = 0
blocks_decoded schema analyze sim t option b ord (rows ∷ segments) = decoded_for limit taken (at_segment ord rows b) (answers schema analyze sim 1 (term t option) (documents_in rows)) (scored_blocks schema analyze sim 1 t option (documents_in rows)) + blocks_decoded schema analyze sim t option (after_term schema analyze sim t option ord rows b) (ord + 1) segments

-- no number is told that is above it
abbrev pub greatest_count : ℕ
greatest_count = 2 ^ 64 - 1
