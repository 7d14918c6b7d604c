-- What remains of a term's postings: laws.
use Rattle.std.proofs.Common.{refl}
use Rattle.std.specs.Prelude.{[], ◌++◌, ◌+◌, ◌≡◌, drop, map, sum, take, ℕ}
use Rattle.codes.specs.UnpackedBlocks.{listed}
use Rattle.docsets.specs.Entries.{AreSingle, Rising, first_positions, single}
use Rattle.segment_postings.specs.TermEntryLaws.{Ascends-behind, Rising-entries_of}
use Rattle.segment_postings.specs.declared.segment_postings.SegmentPostings.{SegmentPostings}
use Rattle.segment_postings.specs.Cursors.{counts_left, docs_left, entries_left}

pub rising_left : (s : SegmentPostings) → Rising 0 (entries_left s)
rising_left s = Rising-entries_of 0 (drop s.cur (docs_left s.blocks)) (drop s.cur (counts_left s.blocks)) (drop (s.blocks.skips.position_offset + sum (take s.cur (counts_left s.blocks))) (listed s.positions)) (Ascends-behind s.cur 0 (docs_left s.blocks) s.blocks.ascends)

pub single_left : (s : SegmentPostings) → AreSingle (entries_left s)
single_left s = s.of_one_term

pub alone_left : (s : SegmentPostings) (offset : ℕ) → [] ++ map (λ p. p + offset) (single (first_positions (entries_left s))) ≡ map (λ p. p + offset) (single (first_positions (entries_left s)))
alone_left s offset = refl
