-- By tests that compute.
use Rattle.std.proofs.Common.{◌*◌, ◌≡◌, ◌^◌, List, arith, lit<, lit≤, map, refl, ℕ}
use Rattle.std.specs.List.{range_with_len}
use Rattle.layouts.proofs.PackedTests.{all_below, ascending_by_test, packed_by_test, takes_more}
use Rattle.layouts.proofs.examples.packed_blocks.every_second_document_takes_one_bit.Goals as goal

differ : (bit : ℕ) → bit ≡ 0 → bit ≡ 1 → ⊥
differ bit low high = omega (arith, low, high)

pub returns-clause-sorted : goal.returns-clause-sorted
returns-clause-sorted c =
    let docs : List ℕ = map (λ i. 2 * i) (range_with_len 0 128) in
    record {
      ascending = ascending_by_test 0 docs refl;
      small = all_below (2 ^ 32) docs (lit< tt) refl;
      block = record {
        width = omega arith;
        packed = packed_by_test _ _ _ refl refl refl refl;
        least = λ k holds. takes_more 0 k 1 (lit≤ tt) (holds 1);
      };
    }

pub returns-clause-highest_bit_first : goal.returns-clause-highest_bit_first
returns-clause-highest_bit_first c packed = differ 0 refl (packed.bits 0 0 (lit< tt) (lit< tt))
