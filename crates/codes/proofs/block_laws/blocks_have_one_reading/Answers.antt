-- Bits tell numbers, and deltas documents.
use Rattle.codes.proofs.BlockPackings.{one_reading}
use Rattle.codes.proofs.StrictDeltaSums.{one_documents}
use Rattle.layouts.specs.Deltas.{deltas, next_of}
use Rattle.codes.proofs.block_laws.blocks_have_one_reading.Goals as goal

pub returns-clause-packed : goal.returns-clause-packed
returns-clause-packed c w a b bytes p q = one_reading w a b bytes p q

pub returns-clause-block : goal.returns-clause-block
returns-clause-block c w a b bytes p q = one_reading w a b bytes p.packed q.packed

pub returns-clause-sorted : goal.returns-clause-sorted
returns-clause-sorted c offset w a b bytes p q = one_documents (next_of offset) a b p.ascending q.ascending (one_reading w (deltas (next_of offset) a) (deltas (next_of offset) b) bytes p.block.packed q.block.packed)
