use Rattle.std.proofs.Common.{ap, arith, drop, get_or, length, sum, take, ◌+◌}
use Rattle.std.proofs.lemmas.List.{length-take}
use Rattle.codes.proofs.AppendedPlaces.{length-places}
use Rattle.codes.specs.UnpackedBlocks.{listed}
use Rattle.segment_postings.proofs.EntryMoves.{positions_there, stands_within}
use Rattle.segment_postings.specs.Cursors.{counts_left, docs_left}
use Rattle.segment_postings.proofs.segment_postings.SegmentPostingsPostings.positions_bound.Goals as goal

pub returns : goal.returns
returns c =
    let s = c.args.self.now in
    let counts = counts_left s.blocks in
    let behind = drop (s.blocks.skips.position_offset + sum (take s.cur counts)) (listed s.positions) in
    let within = stands_within s.cur (docs_left s.blocks) (drop s.cur counts) behind c.requires in
    let is = ap length (positions_there s.cur (docs_left s.blocks) counts behind within) in
    let long = length-places 0 (take (get_or counts s.cur 0) behind) in
    let few = length-take (get_or counts s.cur 0) behind in
    let count = c.freq.ensures in
    omega (arith, is, long, few, count)
