-- Each value so far is its field.
use Rattle.std.proofs.Common.{◌*◌, ◌+◌, ◌<◌, ◌≡◌, get_or, ℕ}
use Rattle.codes.specs.BlockFields.{field}
use lib.Lanes.{number_l}
use Rattle.codes.proofs.bit_unpacker.unpack_at.Given as goal

abbrev pub invariant-loop-index : goal.invariant-loop-index
invariant-loop-index g l = (i : ℕ) → i < 8 * l.group + l.index → get_or l.out i 0 ≡ field g.row.W (number_l 256 l.bytes) i

abbrev pub invariant-loop-group : goal.invariant-loop-group
invariant-loop-group g l = (i : ℕ) → i < 8 * l.group → get_or l.out i 0 ≡ field g.row.W (number_l 256 l.bytes) i
