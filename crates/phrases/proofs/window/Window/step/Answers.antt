use Rattle.std.proofs.Common.{arith}
use Rattle.phrases.proofs.WindowLaws.{left-step}
use Rattle.phrases.proofs.window.Window.step.Goals as goal

pub returns-then-self-len-clause-left : goal.returns-then-self-len-clause-left
returns-then-self-len-clause-left c =
    let w = c.args.self.now in
    let len = c.len.ensures in
    let test = c.if-self-len.true in
    left-step w.places.items w.rows.items w.row (omega (arith, len, test))
