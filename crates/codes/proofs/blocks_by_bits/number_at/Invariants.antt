-- The bits so far.
use Rattle.std.proofs.Common.{◌%◌, ◌/◌, ◌^◌, ◌≡◌}
use lib.Lanes.{number_l}
use Rattle.codes.proofs.blocks_by_bits.number_at.Given as goal

abbrev pub invariant-loop-j : goal.invariant-loop-j
invariant-loop-j l = l.number ≡ number_l 256 l.bytes / 2 ^ l.from % 2 ^ l.j
