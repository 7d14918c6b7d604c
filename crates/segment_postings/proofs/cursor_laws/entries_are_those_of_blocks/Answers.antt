use Rattle.std.proofs.Common.{drop, sum, take, ◌+◌}
use Rattle.codes.specs.UnpackedBlocks.{listed}
use Rattle.segment_postings.proofs.CursorMoves.{docs_of}
use Rattle.segment_postings.specs.Cursors.{counts_left, docs_left}
use Rattle.segment_postings.proofs.cursor_laws.entries_are_those_of_blocks.Goals as goal

pub returns : goal.returns
returns c = λ s. docs_of (drop s.cur (docs_left s.blocks)) (drop s.cur (counts_left s.blocks)) (drop (s.blocks.skips.position_offset + sum (take s.cur (counts_left s.blocks))) (listed s.positions))
