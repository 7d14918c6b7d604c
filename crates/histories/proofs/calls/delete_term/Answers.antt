use Rattle.std.proofs.Common.{refl}
use Rattle.definitions.specs.Calls as calls
use Rattle.histories.proofs.Calling.{change_called, no_limit, tests_alone}
use Rattle.histories.proofs.calls.delete_term.Goals as goal

pub returns : goal.returns
returns g c =
    let made = c.delete_term.ensures in
    change_called g.A.Analyzer.analyze g.met.D.Device.only_now c.args.index.now c.delete_term.new.self _ c.delete_term.result (λ k s. refl) made.left (λ k x s. tests_alone k x (calls.delete_term c.args.term.now) c.delete_term.result (made.exact k x s)) (λ k x s. no_limit k x (calls.delete_term c.args.term.now) c.delete_term.result ⊥ (made.exact k x s)) made.made made.file
