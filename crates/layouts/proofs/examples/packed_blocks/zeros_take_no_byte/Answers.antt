-- By tests that compute.
use Rattle.std.proofs.Common.{refl, arith}
use Rattle.layouts.proofs.PackedTests.{packed_by_test}
use Rattle.layouts.proofs.examples.packed_blocks.zeros_take_no_byte.Goals as goal

pub returns : goal.returns
returns c = record {
  width = omega arith;
  packed = packed_by_test _ _ _ refl refl refl refl;
  least = λ k holds. omega arith;
}
