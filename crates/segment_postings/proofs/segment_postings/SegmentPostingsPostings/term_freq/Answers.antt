use Rattle.std.proofs.Common.{drop, sum, sym, take, ◌+◌, ◌∙◌}
use Rattle.codes.specs.UnpackedBlocks.{listed}
use Rattle.segment_postings.proofs.EntryMoves.{count_there, stands_within}
use Rattle.segment_postings.specs.Cursors.{counts_left, docs_left}
use Rattle.segment_postings.proofs.segment_postings.SegmentPostingsPostings.term_freq.Goals as goal

pub returns : goal.returns
returns c =
    let behind = drop (c.args.self.now.blocks.skips.position_offset + sum (take c.args.self.now.cur (counts_left c.args.self.now.blocks))) (listed c.args.self.now.positions) in
    c.freq.ensures ∙ sym (count_there c.args.self.now.cur (docs_left c.args.self.now.blocks) (counts_left c.args.self.now.blocks) behind (stands_within c.args.self.now.cur (docs_left c.args.self.now.blocks) (drop c.args.self.now.cur (counts_left c.args.self.now.blocks)) behind c.requires))
