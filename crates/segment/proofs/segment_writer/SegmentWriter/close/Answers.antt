use Rattle.std.proofs.Common.{IfOk, drop, length, subst}
use Rattle.segment_definitions.specs.Segments.{IsSegmentOf}
use Rattle.segment.proofs.segment_writer.SegmentWriter.close.Goals as goal

pub returns-clause-ok : goal.returns-clause-ok
returns-clause-ok c analyze block_size docs h = subst (λ front. IfOk c.close_behind.result (λ bytes. IsSegmentOf c.args.schema.now analyze docs (drop (length front) bytes.items))) c.new-prefix.ensures.items (c.close_behind.ensures.ok analyze block_size docs h)
