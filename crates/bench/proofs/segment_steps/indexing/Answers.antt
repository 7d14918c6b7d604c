use Rattle.std.proofs.Common.{[]}
use Rattle.bench.proofs.segment_steps.indexing.Goals as goal

pub index_all-requires : goal.index_all-requires
index_all-requires c = ([], c.in_ok-indexer.ensures _)
