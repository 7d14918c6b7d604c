use Rattle.std.proofs.Common.{arith}
use Rattle.index_state.proofs.PendingDocs.{full_counted}
use Rattle.index_state.proofs.pending_segments.PendingSegments.num_full.Goals as goal

pub returns : goal.returns
returns c schema analyze block_size full last h =
    let counted = full_counted schema analyze block_size c.args.self.now full last h in
    let len = c.len.ensures in
    let held = c.args.self.now.full.ok in
    omega (arith, counted, len, held)
