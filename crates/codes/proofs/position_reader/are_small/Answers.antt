use Rattle.std.proofs.Common.{arith, ◌≤◌, ◌^◌}
use Rattle.std.proofs.Math.Pow.{pow_mono}
use Rattle.std.proofs.lemmas.Bool.Decides.{nat_tests}
use Rattle.codes.proofs.position_reader.are_small.Goals as goal

pub returns : goal.returns
returns c = (
  λ few i. (let within : c.width_of.result ≤ 31 = grind (arith, nat_tests) in let most : 2 ^ c.width_of.result ≤ 2 ^ 31 = pow_mono within in let h = c.width_of.ensures.holds i in omega arith),
  λ small. (let within : c.width_of.result ≤ 31 = c.width_of.ensures.least 31 small in grind (arith, nat_tests)),
)
