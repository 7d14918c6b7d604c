-- Bounds of the scores in blocks.
use Rattle.std.specs.Prelude.{◌+◌, List, min, ℕ}
use Rattle.definitions.specs.Blocks.{bound_score}
use Rattle.definitions.specs.Postings.{terminated}
use Rattle.layouts.specs.SkipEntries.{SkipEntry}
use Rattle.segment_postings.specs.Cursors.{first_bound}
use Rattle.codes.specs.SkipBlocks.{last_doc}
use Rattle.term_scorer.specs.TermScores.{TermSimilarity}

-- the score of the first block's bound
abbrev pub block_score : TermSimilarity → List SkipEntry → ℕ
block_score sim es = bound_score sim.boost sim.weight sim.norms (first_bound es)

-- the first document behind the first block
abbrev pub until_of : List SkipEntry → ℕ
until_of es = min terminated (last_doc es + 1)
