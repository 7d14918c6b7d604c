-- What remains of a term's postings.
use Rattle.std.specs.Prelude.{[], ◌%◌, ◌*◌, ◌+◌, ◌/◌, ◌≡◌, ◌∷◌, Bool, List, None, Option, Some, drop, if◌then◌else◌, length, min, nat_lt, ℕ}
use Rattle.definitions.specs.Blocks.{block_len}
use Rattle.layouts.specs.SkipEntries.{SkipEntry}
use Rattle.layouts.specs.TermPostings.{bound_in}
use Rattle.codes.specs.SkipBlocks.{Skips}
use Rattle.codes.specs.UnpackedBlocks.{listed}
use Rattle.docsets.specs.Entries.{Entry}
use Rattle.segment_postings.specs.Reading.{counts_at, docs_at}
use Rattle.segment_postings.specs.TermEntries.{entries_from}
use Rattle.segment_postings.specs.declared.block_segment_postings.Ahead.{Ahead}
use Rattle.segment_postings.specs.declared.block_segment_postings.BlockSegmentPostings.{BlockSegmentPostings}
use Rattle.segment_postings.specs.declared.segment_postings.SegmentPostings.{SegmentPostings}

-- the documents, and their counts, from the block on that is held
abbrev pub docs_left : BlockSegmentPostings → List ℕ
docs_left s = docs_at s.before s.skips s.bytes.now

abbrev pub counts_left : BlockSegmentPostings → List ℕ
counts_left s = counts_at s.reads_counts s.before s.skips s.bytes.now

-- the skip entries from that block on
abbrev pub skips_left : BlockSegmentPostings → List SkipEntry
skips_left s = s.skips.left

-- the skip entries from the block ahead on, and where there is none from the block that is held
abbrev pub skips_ahead : Option Ahead → Skips → List SkipEntry
skips_ahead None s = s.left
skips_ahead (Some a) s = a.skips.left

-- the skip entries from the block on that was reached last, by a look ahead or by a move
abbrev pub skips_reached : BlockSegmentPostings → List SkipEntry
skips_reached s = skips_ahead s.ahead s.skips

-- the bound of the first block; none of the rest
abbrev pub first_bound : List SkipEntry → Option (ℕ × ℕ)
first_bound [] = None
first_bound (e ∷ es) = bound_in e

-- how many positions stand before those of that block
abbrev pub positions_passed : BlockSegmentPostings → ℕ
positions_passed s = s.skips.position_offset

-- how many documents have the term
abbrev pub doc_freq_of : BlockSegmentPostings → ℕ
doc_freq_of s = s.doc_freq

-- how many blocks with documents were decoded
abbrev pub blocks_decoded : BlockSegmentPostings → ℕ
blocks_decoded s = s.decoded

-- whether counts are read
abbrev pub counts_are_read : BlockSegmentPostings → Bool
counts_are_read s = s.reads_counts

-- whether positions are read
abbrev pub positions_are_read : BlockSegmentPostings → Bool
positions_are_read s = s.reads_positions

-- the entries from a document on
abbrev pub entries_left : SegmentPostings → List Entry
entries_left s = entries_from s.cur s.blocks.skips.position_offset (docs_left s.blocks) (counts_left s.blocks) (listed s.positions)

-- how many documents have the term of a cursor over documents
abbrev pub cursor_doc_freq : SegmentPostings → ℕ
cursor_doc_freq s = doc_freq_of s.blocks

-- how many blocks with documents it decoded
abbrev pub cursor_blocks_decoded : SegmentPostings → ℕ
cursor_blocks_decoded s = blocks_decoded s.blocks

-- its blocks, from the one that it holds on
abbrev pub cursor_blocks : SegmentPostings → BlockSegmentPostings
cursor_blocks s = s.blocks

-- the index in that block of the document on which it stands
abbrev pub cursor_place : SegmentPostings → ℕ
cursor_place s = s.cur

-- how many positions the term has; 0 where they aren't read
abbrev pub cursor_positions : SegmentPostings → ℕ
cursor_positions s = length (listed s.positions)

-- a cursor went on to an index, which is counted from the first document of the block that it held: it holds the block
-- of that index, which was decoded if it is another and has documents, and no other was
pub record HasMoved (index : ℕ) (before after : SegmentPostings) : Type 0 where
  pub index_is : cursor_place after ≡ index % block_len
  pub docs : docs_left (cursor_blocks after) ≡ drop (block_len * (index / block_len)) (docs_left (cursor_blocks before))
  pub counts : counts_left (cursor_blocks after) ≡ drop (block_len * (index / block_len)) (counts_left (cursor_blocks before))
  pub entries : skips_left (cursor_blocks after) ≡ drop (index / block_len) (skips_left (cursor_blocks before))
  pub decoded : cursor_blocks_decoded after ≡ cursor_blocks_decoded before + (if nat_lt index block_len then 0 else min 1 (length (docs_left (cursor_blocks after))))
  pub doc_freq : cursor_doc_freq after ≡ cursor_doc_freq before
  pub positions : cursor_positions after ≡ cursor_positions before

-- a cursor looked ahead: all is as it was, but for the block that was reached
pub record HasStayed (before after : SegmentPostings) : Type 0 where
  pub index : cursor_place after ≡ cursor_place before
  pub docs : docs_left (cursor_blocks after) ≡ docs_left (cursor_blocks before)
  pub counts : counts_left (cursor_blocks after) ≡ counts_left (cursor_blocks before)
  pub entries : skips_left (cursor_blocks after) ≡ skips_left (cursor_blocks before)
  pub decoded : cursor_blocks_decoded after ≡ cursor_blocks_decoded before
  pub doc_freq : cursor_doc_freq after ≡ cursor_doc_freq before
  pub positions : cursor_positions after ≡ cursor_positions before
