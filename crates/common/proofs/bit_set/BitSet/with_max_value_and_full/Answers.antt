use Rattle.std.proofs.Common.{arith}
use Rattle.common.proofs.SetSteps.{all_in, full_set}
use Rattle.common.proofs.bit_set.BitSet.with_max_value_and_full.Goals as goal

pub invariant_of-result : goal.invariant_of-result
invariant_of-result c = full_set c.args.max_value _ (omega (arith, c.ranges.max_value.fits)) c.in_ok-full_words.ensures

pub returns : goal.returns
returns c = all_in c.args.max_value _ c.in_ok-full_words.ensures
