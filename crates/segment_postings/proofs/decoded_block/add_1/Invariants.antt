use Rattle.std.proofs.Common.{length, take, ◌≡◌}
use Rattle.segment_postings.proofs.decoded_block.add_1.Given as goal
use Rattle.segment_postings.specs.Blocks.{more_1}

-- the numbers so far are put
abbrev pub invariant-loop-index : goal.invariant-loop-index
invariant-loop-index l = record {
  told : take l.index l.counts ≡ more_1 (take l.index l.numbers);
  long : length l.counts ≡ 128;
}
