-- The bytes so far and the bits that wait are the values so far, as one number.
use Rattle.std.proofs.Common.{length, take, ◌*◌, ◌<◌, ◌≡◌, ◌^◌}
use Rattle.codes.proofs.BlockFilling.{Packs}
use Rattle.common.proofs.DigitNumbers.{AreDigits}
use lib.Lanes.{number_l}
use Rattle.codes.proofs.bit_packer.pack.Given as goal

abbrev pub invariant-loop-n : goal.invariant-loop-n
invariant-loop-n l = record {
  packs : Packs (number_l 256 (take (4 * l.words) l.out)) (number_l (2 ^ l.width) (take l.n-index l.numbers)) l.waiting l.filled l.words (l.n-index * l.width);
  few : l.filled < 32;
  digits : AreDigits 256 (take (4 * l.words) l.out);
  long : length l.out ≡ 640;
}
