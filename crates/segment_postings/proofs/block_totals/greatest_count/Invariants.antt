use Rattle.std.proofs.Common.{drop, max, ◌≡◌}
use Rattle.segment_postings.specs.Blocks.{more_1}
use Rattle.definitions.specs.Scoring.{greatest_of}
use Rattle.segment_postings.proofs.block_totals.greatest_count.Given as goal

abbrev pub invariant-loop-number : goal.invariant-loop-number
invariant-loop-number l = max l.greatest (greatest_of (more_1 (drop l.number-index l.counts_less_1))) ≡ greatest_of (more_1 l.counts_less_1)
