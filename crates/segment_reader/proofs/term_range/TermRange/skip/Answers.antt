use Rattle.segment_reader.proofs.WalkSteps.{moved_by}
use Rattle.segment_reader.proofs.term_range.TermRange.skip.Goals as goal

pub loop-preserved : goal.loop-preserved
loop-preserved c = moved_by c.loop.counter c.loop.self c.advance.new.self c.args.self.now.rest c.loop.invariant c.advance.ensures.next
