use Rattle.std.proofs.Common.{length, vec_capacity, ◌+◌, ◌-◌, ◌≡◌, ◌≤◌}
use Rattle.codes.specs.DecodedBlocks.{output_list}
use Rattle.codes.proofs.AppendedPlaces.{Appends}
use Rattle.codes.specs.PositionBlocks.{Holds, numbers_in}
use Rattle.codes.proofs.position_reader.PositionReader.append_places.Given as goal

-- the sums so far stand behind what the output held
abbrev pub invariant-loop-taken : goal.invariant-loop-taken
invariant-loop-taken l = record {
  holds : Holds l.self-inside.widths.now l.self-inside.packed.now (output_list l.self-inside.decoder) l.self-inside.block l.self-inside.at;
  same : numbers_in l.self-inside.widths.now l.self-inside.packed.now ≡ l.fn.self;
  appends : Appends l.fn.self l.begin l.count l.offset l.fn.output.items l.taken l.last l.output.items;
  room : length l.fn.output.items + l.count ≤ vec_capacity l.output;
  grown : vec_capacity l.fn.output ≤ vec_capacity l.output;
}

abbrev pub decreases-loop-taken : goal.decreases-loop-taken
decreases-loop-taken l = l.count - l.taken
