-- The blocks that a term's scorer has left, as a walk meets them that leaves blocks out.
use Rattle.std.specs.Prelude.{[], ◌*◌, ◌+◌, ◌-◌, ◌/◌, ◌≡◌, ◌∷◌, List, drop, if◌then◌else◌, length, min, nat_le, nat_lt, take, ℕ}
use Rattle.definitions.specs.Blocks.{block_len}
use Rattle.definitions.specs.Sinks.{ScoredBlocks}
use Rattle.docsets.specs.Entries.{Entry}
use Rattle.docsets.specs.ScoredEntries.{pairs_of}
use Rattle.layouts.specs.SkipEntries.{SkipEntry}
use Rattle.segment_postings.specs.Cursors.{cursor_blocks, cursor_blocks_decoded, cursor_place, docs_left, skips_left, skips_reached}
use Rattle.segment_postings.specs.Reading.{below}
use Rattle.term_scorer.specs.BlockScores.{block_score}
use Rattle.term_scorer.specs.ScoredTerms.{cursor_of, scored_left, similarity_of}
use Rattle.term_scorer.specs.TermScores.{TermSimilarity}
use Rattle.term_scorer.specs.declared.term_scorer.TermScorer.{TermScorer}

-- ---- blocks

-- entries in blocks, each with the score of its bound: a full block for each skip entry, the first from an index in it
-- on, and then the rest, which may be empty
abbrev pub blocks_of : TermSimilarity → ℕ → List SkipEntry → List Entry → ScoredBlocks
blocks_of sim index [] es = (block_score sim [], pairs_of es) ∷ []
blocks_of sim index (e ∷ skips) es = (block_score sim (e ∷ skips), pairs_of (take (block_len - index) es)) ∷ blocks_of sim 0 skips (drop (block_len - index) es)

-- what a scorer has left in blocks: the first is the one that its cursor holds, from the current document on
abbrev pub blocks_left : TermScorer → ScoredBlocks
blocks_left s = blocks_of (similarity_of s) (cursor_place (cursor_of s)) (skips_left (cursor_blocks (cursor_of s))) (scored_left s)

-- ---- the cursor of a scorer

-- how many blocks with documents it decoded
abbrev pub blocks_decoded_by : TermScorer → ℕ
blocks_decoded_by s = cursor_blocks_decoded (cursor_of s)

-- the documents from the block on that it holds
abbrev pub docs_held : TermScorer → List ℕ
docs_held s = docs_left (cursor_blocks (cursor_of s))

-- the skip entries from that block on
abbrev pub skips_held : TermScorer → List SkipEntry
skips_held s = skips_left (cursor_blocks (cursor_of s))

-- the skip entries from the block on that was reached last
abbrev pub skips_found : TermScorer → List SkipEntry
skips_found s = skips_reached (cursor_blocks (cursor_of s))

-- ---- a walk

-- the entries before a document
abbrev pub up_to : ℕ → List Entry → List Entry
up_to until [] = []
up_to until (e ∷ es) = if nat_le until e.doc then up_to until es else e ∷ up_to until es

-- a scorer stands in the block that may hold a document: that block was decoded if another was held and it has documents,
-- and no other was
pub record StandsInBlock (target : ℕ) (before after : TermScorer) : Type 0 where
  pub docs : docs_held after ≡ drop (block_len * (below target (docs_held before) / block_len)) (docs_held before)
  pub skips : skips_held after ≡ drop (below target (docs_held before) / block_len) (skips_held before)
  pub decoded : blocks_decoded_by after ≡ blocks_decoded_by before + (if nat_lt (below target (docs_held before)) block_len then 0 else min 1 (length (docs_held after)))
  pub similarity : similarity_of after ≡ similarity_of before
