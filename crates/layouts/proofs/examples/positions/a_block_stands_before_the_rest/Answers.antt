-- By tests that compute.
use Rattle.std.proofs.Common.{[], arith, refl, replicate, ◌++◌, ◌^◌, ◌∷◌}
use Rattle.definitions.specs.NumberCodes.{vint_bytes}
use Rattle.layouts.proofs.PackedTests.{all_below, packed_by_test}
use Rattle.layouts.proofs.examples.positions.a_block_stands_before_the_rest.Goals as goal

pub returns : goal.returns
unfolding vint_bytes
returns c = record {
  widths = 0 ∷ [];
  packed = 0x85 ∷ [];
  bytes_are = refl;
  blocks = (record { width = omega arith; packed = packed_by_test _ _ _ refl refl refl refl; least = λ k holds. omega arith }, (omega arith, refl));
  small = all_below (2 ^ 31) (replicate 128 0 ++ 5 ∷ []) (omega arith) refl;
}
