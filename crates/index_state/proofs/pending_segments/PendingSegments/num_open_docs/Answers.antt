use Rattle.index_state.proofs.PendingDocs.{writer_holds}
use Rattle.index_state.proofs.pending_segments.PendingSegments.num_open_docs.Goals as goal

pub returns-in-Some : goal.returns-in-Some
returns-in-Some c schema analyze block_size full last h = c.num_docs.ensures schema analyze block_size last (writer_holds schema analyze block_size c.args.self.now full last h c.in-Some.writer c.in-Some.is).1
