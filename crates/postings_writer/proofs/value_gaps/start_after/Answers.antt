use Rattle.std.proofs.Common.{arith}
use Rattle.postings_writer.proofs.value_gaps.start_after.Goals as goal

pub returns : goal.returns
returns c = (let a = c.min.ensures in let b = c.min-2.ensures in omega arith)
