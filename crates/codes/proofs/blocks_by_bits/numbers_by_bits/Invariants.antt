-- Each value so far is its field.
use Rattle.std.proofs.Common.{◌<◌, ◌≡◌, get_or, length, ℕ}
use Rattle.codes.specs.BlockFields.{field}
use lib.Lanes.{number_l}
use Rattle.codes.proofs.blocks_by_bits.numbers_by_bits.Given as goal

abbrev pub invariant-loop-i : goal.invariant-loop-i
invariant-loop-i l = record {
  fields : (k : ℕ) → k < l.i → get_or l.out k 0 ≡ field l.num_bits (number_l 256 l.bytes) k;
  count : length l.out ≡ 128;
}
