use Rattle.std.proofs.Common.{refl}
use Rattle.histories.proofs.Calling.{writes_called}
use Rattle.histories.proofs.calls.commit.Goals as goal

pub returns : goal.returns
returns g c =
    let made = c.commit.ensures in
    writes_called g.A.Analyzer.analyze g.met.D.Device.only_now c.args.index.now c.commit.new.self _ c.commit.result (λ k s. refl) made.writes made.cause made.limit made.made made.honest made.kept
