use Rattle.std.proofs.Common.{Bool, List, length, ◌≡◌, ℕ}
use Rattle.segment_postings.proofs.Passing.{Passing}
use Rattle.segment_postings.specs.Reading.{StandsIn}
use Rattle.codes.specs.SkipBlocks.{last_doc}
use Rattle.segment_postings.proofs.block_segment_postings.pass_blocks.Given as goal

-- the blocks before `last` are passed
abbrev pub invariant-loop-last : goal.invariant-loop-last
invariant-loop-last l = record {
  at : l.last ≡ last_doc l.skips.left;
  passing : (reads sums : Bool) (bytes : List ℕ) → StandsIn reads sums l.fn.before l.fn.skips bytes → (k : ℕ) × Passing reads sums l.fn.target l.fn.before l.fn.skips l.before l.skips bytes k;
}

abbrev pub decreases-loop-last : goal.decreases-loop-last
decreases-loop-last l = length l.skips.left
