use Rattle.std.proofs.Common.{ap, arith, get_or, sym, ◌∙◌}
use Rattle.std.proofs.lemmas.List.{get_or-take}
use Rattle.segment_postings.specs.Reading.{counts_at}
use Rattle.segment_postings.proofs.block_segment_postings.BlockSegmentPostings.freq.Goals as goal

pub returns : goal.returns
returns c =
    let len = c.args.self.now.held.len_is in
    let counts = counts_at c.args.self.now.reads_counts c.args.self.now.before c.args.self.now.skips c.args.self.now.bytes.now in
    let block = c.requires.block in
    let within = c.requires.within in
    sym (get_or-take c.args.self.now.len c.args.self.now.counts c.args.index 0 (omega (arith, len, block, within))) ∙ (ap (λ xs. get_or xs c.args.index 0) c.args.self.now.held.counts_are ∙ get_or-take 128 counts c.args.index 0 block)
