use Rattle.std.proofs.Common.{◌∙◌}
use Rattle.segment.proofs.Adding.{docs_counted}
use Rattle.segment.proofs.segment_writer.SegmentWriter.num_docs.Goals as goal

pub returns : goal.returns
returns c schema analyze block_size docs h = c.num_docs.ensures.count ∙ docs_counted c.args.self.now.store schema docs h.stored
