use Rattle.std.proofs.Common.{ap, get_or, ◌∙◌}
use Rattle.segment_postings.proofs.HeldBlocks.{at_held}
use Rattle.segment_postings.specs.Reading.{docs_at}
use Rattle.segment_postings.proofs.block_segment_postings.BlockSegmentPostings.doc.Goals as goal

pub returns : goal.returns
returns c = ap (λ xs. get_or xs c.args.index 0) c.args.self.now.held.docs_are ∙ at_held c.args.index c.args.self.now.len (docs_at c.args.self.now.before c.args.self.now.skips c.args.self.now.bytes.now) c.requires c.args.self.now.held.len_is
