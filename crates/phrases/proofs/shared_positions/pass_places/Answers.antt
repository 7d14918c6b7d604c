use Rattle.std.proofs.Common.{arith, length, ◌+◌, ◌<◌}
use Rattle.phrases.proofs.NearestCosts.{positions-order as ascends-order}
use Rattle.phrases.proofs.shared_positions.pass_places.Goals as goal

pub loop-step-preserved : goal.loop-step-preserved
loop-step-preserved c =
    let places = c.args.places.now in
    let next = c.loop-step.index + c.loop-step.step in
    let inv = c.loop-step.invariant in
    let some = inv.some in
    let first = inv.from in
    let within : next < length places = omega (arith, c.loop-step-test.true) in
    let far = c.if-from-position.true in
    let at = c.from.ensures in
    let by = c.from-in-loop-step.ensures in
    record {
      some = omega (arith, some);
      from = omega (arith, first);
      within = within;
      passed = λ k f t.
          (let order = ascends-order 0 k next places c.requires.places (omega (arith, t)) within in
          omega (arith, order, far, at, by));
    }
