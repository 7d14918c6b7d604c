use Rattle.std.proofs.Common.{drop, map, ◌≡◌}
use Rattle.segment_postings.proofs.NumberFolds.{lowest}
use Rattle.definitions.specs.Blocks.{least_of}
use Rattle.layouts.specs.TermPostings.{id_of}
use Rattle.segment_postings.proofs.block_totals.least_kept_id.Given as goal

abbrev pub invariant-loop-doc : goal.invariant-loop-doc
invariant-loop-doc l = lowest l.least (map (id_of l.reader) (drop l.doc-index l.docs)) ≡ least_of (map (id_of l.reader) l.docs)
