-- By tests that compute.
use Rattle.std.proofs.Common.{◌∷◌, replicate, ◌≤◌, arith, lit<, lit≤, refl}
use Rattle.layouts.proofs.PackedTests.{all_below, packed_by_test, takes_more}
use Rattle.layouts.proofs.examples.packed_blocks.numbers_go_over_to_the_next_byte.Goals as goal

pub returns-clause-block : goal.returns-clause-block
returns-clause-block c = record {
  width = omega arith;
  packed = packed_by_test _ _ _ refl refl refl refl;
  least = λ k holds. takes_more 2 k 7 (lit≤ tt) (holds 2);
}

pub returns-clause-wider : goal.returns-clause-wider
returns-clause-wider c block = (let at_most : 4 ≤ 3 = block.least 3 (all_below 8 (1 ∷ 2 ∷ 7 ∷ replicate 125 0) (lit< tt) refl) in omega arith)
