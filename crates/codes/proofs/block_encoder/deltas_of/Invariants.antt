-- The deltas so far and those of what is left are those of all.
use Rattle.std.proofs.Common.{drop, length, take, ◌++◌, ◌≡◌}
use Rattle.layouts.specs.Deltas.{IsAscendingFrom, deltas, next_of}
use Rattle.codes.proofs.block_encoder.deltas_of.Given as goal

abbrev pub invariant-loop-i : goal.invariant-loop-i
invariant-loop-i l = record {
  told : take l.i l.deltas ++ deltas l.next (drop l.i l.docs) ≡ deltas (next_of l.offset) l.docs;
  ascending : IsAscendingFrom l.next (drop l.i l.docs);
  long : length l.deltas ≡ 128;
}
