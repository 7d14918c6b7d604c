use Rattle.std.proofs.Common.{drop, length, take, ◌-◌, ◌≡◌, ◌≤◌}
use Rattle.codes.specs.DecodedBlocks.{output_list}
use Rattle.codes.specs.PositionBlocks.{Holds, numbers_in}
use Rattle.codes.proofs.position_reader.PositionReader.read.Given as goal

-- the numbers so far fill the output
abbrev pub invariant-loop-filled : goal.invariant-loop-filled
invariant-loop-filled l = record {
  holds : Holds l.self-inside.widths.now l.self-inside.packed.now (output_list l.self-inside.decoder) l.self-inside.block l.self-inside.at;
  same : numbers_in l.self-inside.widths.now l.self-inside.packed.now ≡ l.fn.self;
  few : l.filled ≤ length l.output;
  long : length l.output ≡ length l.fn.output;
  copied : take l.filled l.output ≡ take l.filled (drop l.offset l.fn.self);
}

abbrev pub decreases-loop-filled : goal.decreases-loop-filled
decreases-loop-filled l = length l.output - l.filled
