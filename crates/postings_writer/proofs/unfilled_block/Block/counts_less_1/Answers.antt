use Rattle.std.proofs.Common.{ap, take, ◌∙◌}
use Rattle.layouts.specs.TermPostings.{less_1}
use Rattle.postings_writer.specs.TermWriting.{Waiting}
use Rattle.postings_writer.proofs.WaitingBlocks.{less_back}
use Rattle.postings_writer.proofs.unfilled_block.Block.counts_less_1.Goals as goal

pub returns : goal.returns
returns c = less_back (take c.self.inside.len c.self.inside.counts_less_1) ∙ ap (λ (w : Waiting). less_1 w.counts) c.self.view_is
