use Rattle.std.proofs.Common.{ap, arith, nat_abs, rules, to_z-of_z, w64, ◌∙◌}
use Rattle.definitions.proofs.Bounds.{not_negative}
use mir.Val.{SFits}
use Rattle.intersections.proofs.joint_windows.with_bound.Goals as goal

pub returns : goal.returns
returns c =
    let fits : SFits w64 c.args.bound = search rules in
    let bound = ap nat_abs (to_z-of_z fits) ∙ not_negative c.args.bound c.requires.positive in
    let one = c.min.ensures in
    let other = c.min-2.ensures in
    omega (arith, bound, one, other)
