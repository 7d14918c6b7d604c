use Rattle.std.proofs.Common.{refl}
use Rattle.histories.proofs.Calling.{change_called}
use Rattle.histories.proofs.calls.add_json.Goals as goal

pub returns : goal.returns
returns g c =
    let made = c.add_json.ensures in
    change_called g.A.Analyzer.analyze g.met.D.Device.only_now c.args.index.now c.add_json.new.self _ c.add_json.result (λ k s. refl) made.left made.exact made.limit made.made made.file
