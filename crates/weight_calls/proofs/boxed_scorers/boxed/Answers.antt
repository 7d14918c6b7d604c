use Rattle.std.proofs.Common.{arith}
use Rattle.weight_calls.proofs.boxed_scorers.boxed.Goals as goal

pub intersect_scorers-requires : goal.intersect_scorers-requires
intersect_scorers-requires c = record { fits = rw c.in_ok-both.ensures.items (omega (arith, c.in_ok-all_documents.ensures, c.in_ok-all_documents-2.ensures)) }
