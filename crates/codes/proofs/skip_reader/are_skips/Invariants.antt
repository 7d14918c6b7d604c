use Rattle.std.proofs.Common.{◌-◌, ◌≡◌, ◌≤◌, ◌^◌}
use Rattle.codes.specs.SkipBlocks.{are_skips}
use Rattle.codes.proofs.skip_reader.are_skips.Given as goal

-- what is left decides
abbrev pub invariant-loop : goal.invariant-loop
invariant-loop l = (are_skips l.recorded.counts l.recorded.positions l.blocks 0 l.bytes ≡ are_skips l.recorded.counts l.recorded.positions (l.blocks - l.counter) l.least l.rest) × (l.least ≤ 2 ^ 32)
