use Rattle.std.proofs.Common.{IfErr, IsTrue, Some, subst, sym, ◌≡◌, ◌≢◌}
use Rattle.definitions.specs.declared.fault.Fault.TheVariants as faults
use Rattle.index.specs.Asking.{CreatesOf}
use Rattle.index.specs.Sessions.{KeepsDevice, honest_on}
use Rattle.index.specs.Outcomes.{BothStand, IsMade}
use Rattle.index.specs.Sessions.{analyzer_on, device_on}
use Rattle.index.proofs.session.Session.make.Goals as goal

pub returns-clause-kept : goal.returns-clause-kept
returns-clause-kept g c honest =
    let was : c.args.self.now.stage ≡ Some c.in-Some.stage = search in
    subst (λ o. IfErr c.create-stage.result.1 (λ fault. fault ≢ faults.Device → KeepsDevice o (Some c.create-stage.result.0))) (sym was)
    (c.create-stage.ensures.kept (subst (λ o. IsTrue (honest_on o)) was honest))

pub returns-clause-creates : goal.returns-clause-creates
returns-clause-creates g c honest =
    let was : c.args.self.now.stage ≡ Some c.in-Some.stage = search in
    subst (λ o. CreatesOf o (Some c.create-stage.result.0)) (sym was) c.create-stage.ensures.creates

pub returns-clause-made : goal.returns-clause-made
returns-clause-made g c =
    let was : c.args.self.now.stage ≡ Some c.in-Some.stage = search in
    subst (λ o. BothStand (λ old new. IsMade g.A.Analyzer.knows_name g.A.Analyzer.analyze (device_on old) (analyzer_on old) c.args.schema c.args.settings (new, c.create-stage.result.1)) o (Some c.create-stage.result.0)) (sym was) c.create-stage.ensures.made
