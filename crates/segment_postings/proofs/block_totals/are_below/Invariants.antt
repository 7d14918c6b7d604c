use Rattle.std.proofs.Common.{◌<◌}
use Rattle.segment_postings.proofs.NumberFolds.{Decides}
use Rattle.segment_postings.proofs.block_totals.are_below.Given as goal

abbrev pub invariant-loop-doc : goal.invariant-loop-doc
invariant-loop-doc l = Decides (λ doc. doc < l.num_docs) l.docs l.doc-index
