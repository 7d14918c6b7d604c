use Rattle.std.proofs.Common.{arith}
use Rattle.histories.proofs.Scans.{told_no_failure}
use Rattle.histories.proofs.laws.a_device_that_does_not_fail_is_not_told.Goals as goal

pub returns : goal.returns
returns g c k x cs stands leads same few =
    (told_no_failure g.D.Device g.A.Analyzer k x.index c.args.first.now c.args.last.now cs stands leads).1 (omega (arith, same)) few
