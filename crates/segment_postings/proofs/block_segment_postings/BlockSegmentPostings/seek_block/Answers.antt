use Rattle.segment_postings.proofs.Finding.{block_ends, in_block}
use Rattle.segment_postings.proofs.block_segment_postings.BlockSegmentPostings.seek_block.Goals as goal

pub returns-clause-block : goal.returns-clause-block
returns-clause-block c =
    let self = c.args.self.now in
    let found = c.found_block-found.result in
    λ index within late early. in_block self.reads_counts self.reads_positions c.args.target self.before self.skips found.before found.skips self.bytes.now c.found_block-found.ensures.passed self.ascends index within late early

pub returns-clause-ends : goal.returns-clause-ends
returns-clause-ends c =
    let self = c.args.self.now in
    let found = c.found_block-found.result in
    λ some. block_ends self.reads_counts self.reads_positions c.args.target self.before self.skips found.before found.skips self.bytes.now c.found_block-found.ensures.passed self.ascends c.found_block-found.ensures.late some
