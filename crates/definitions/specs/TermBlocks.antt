-- The documents of a term in blocks, as a walk that leaves blocks out meets them.
use Rattle.std.specs.Prelude.{List, map, zip, ℕ}
use Rattle.definitions.specs.Analyzers.{Analyzer}
use Rattle.definitions.specs.Answers.{answers}
use Rattle.definitions.specs.Blocks.{block_len, blocks, bound_of, bound_score}
use Rattle.definitions.specs.Query.{term}
use Rattle.definitions.specs.Schema.{IndexRecordOption, Schema}
use Rattle.definitions.specs.Scoring.{Similarity}
use Rattle.definitions.specs.Sinks.{ScoredBlocks}
use Rattle.definitions.specs.State.{pieces}
use Rattle.definitions.specs.Values.{Document}

-- the score of each block's bound under a boost
abbrev pub bound_scores : Schema → Analyzer → Similarity → ℕ → List ℕ → List Document → List ℕ
bound_scores schema analyze sim b t docs = map (λ block. bound_score b (sim.weight t) sim.norms (bound_of block)) (blocks schema analyze t docs)

-- the documents that hold a term with their scores, 128 in a block, each block with the score of its bound
abbrev pub scored_blocks : Schema → Analyzer → Similarity → ℕ → List ℕ → IndexRecordOption → List Document → ScoredBlocks
scored_blocks schema analyze sim b t option docs = zip (bound_scores schema analyze sim b t docs) (pieces block_len (answers schema analyze sim b (term t option) docs))
