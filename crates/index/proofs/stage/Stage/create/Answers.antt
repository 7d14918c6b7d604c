use Rattle.std.proofs.Common.{IfErr, Some, subst, sym, ◌≡◌, ◌≢◌}
use Rattle.definitions.specs.Disk.{HasCause}
use Rattle.definitions.specs.Step as steps
use Rattle.definitions.specs.declared.fault.Fault.TheVariants as faults
use Rattle.std.specs.Prelude.{IsErrOf}
use Rattle.index_file.specs.Kept.{IsKept}
use Rattle.index.specs.Sessions.{LeavesStage, device_on}
use Rattle.index.proofs.Stages.{create_left, made_no_limit, stage_failures, stage_honest, stage_kept}
use Rattle.index.specs.Asking.{Creates}
use Rattle.index.proofs.Asked.{creates_of}
use Rattle.index.specs.Outcomes.{IsMade}
use Rattle.index.specs.Sessions.{analyzer_on}
use Rattle.index.proofs.stage.Stage.create.Goals as goal

pub returns-clause-left : goal.returns-clause-left
returns-clause-left g c a s h not_ready =
    let knows = g.A.Analyzer.knows_name in
    let analyze = g.A.Analyzer.analyze in
    subst (λ r. LeavesStage knows analyze a (steps.held_by s) (Some r.0) r.1 (steps.created a.knows c.args.schema c.args.settings (steps.held_by s))) (sym c.leave.ensures)
    (create_left g.D.Device g.A.Analyzer knows analyze a c.into_device-device.result.0 c.into_device-device.result.1 (steps.held_by s) c.args.schema c.args.settings c.create.result (c.into_device-device.ensures.spare a s h not_ready)
    c.create.ensures.made c.create.ensures.empty c.create.ensures.ok c.create.ensures.of c.create.ensures.exact c.create.ensures.analyzer c.create.ensures.honest c.create.ensures.not_empty c.create.ensures.kept c.create.ensures.rests)

pub returns-clause-honest : goal.returns-clause-honest
returns-clause-honest g c =
    let d = g.D.Device in
    subst (λ r. d.honest (device_on r.0) ≡ d.honest (device_on c.args.self)) (sym c.leave.ensures)
    (stage_honest (device_on c.args.self) c.into_device-device.result.0 c.create.result c.into_device-device.ensures.device c.create.ensures.honest)

pub returns-clause-failures : goal.returns-clause-failures
returns-clause-failures g c =
    let d = g.D.Device in
    subst (λ r. HasCause (d.failed (device_on c.args.self)) (d.failed (device_on r.0)) r.1) (sym c.leave.ensures)
    (stage_failures (device_on c.args.self) c.into_device-device.result.0 c.create.result c.into_device-device.ensures.device c.create.ensures.cause)

pub returns-clause-limit : goal.returns-clause-limit
returns-clause-limit g c =
    subst (λ r. ¬ IsErrOf r.1 faults.Limit) (sym c.leave.ensures)
    (made_no_limit (g.A.Analyzer.knows_name c.into_device-device.result.1) c.args.schema c.args.settings c.create.result c.create.ensures.exact)

pub returns-clause-kept : goal.returns-clause-kept
returns-clause-kept g c honest =
    let d = g.D.Device in
    let old = device_on c.args.self in
    subst (λ r. IfErr r.1 (λ fault. fault ≢ faults.Device → IsKept d.moment d.left_since d.content d.unsynced old (device_on r.0))) (sym c.leave.ensures)
    (stage_kept old c.into_device-device.result.0 c.create.result c.into_device-device.ensures.device c.create.ensures.kept honest)

pub returns-clause-creates : goal.returns-clause-creates
returns-clause-creates g c =
    subst (λ r. Creates c.args.self r.0) (sym c.leave.ensures)
    (creates_of c.args.self c.into_device-device.result.0 c.create.result c.into_device-device.ensures.device c.create.ensures.empty c.create.ensures.stays c.create.ensures.any_moment c.create.ensures.lists)

pub returns-clause-made : goal.returns-clause-made
returns-clause-made g c =
    let knows = g.A.Analyzer.knows_name in
    let analyze = g.A.Analyzer.analyze in
    let make = c.create.ensures in
    let left = c.leave.result in
    subst (λ e. IsMade knows analyze e (analyzer_on c.args.self) c.args.schema c.args.settings left) c.into_device-device.ensures.device
    (subst (λ f. IsMade knows analyze c.into_device-device.result.0 f c.args.schema c.args.settings left) c.into_device-device.ensures.analyzer
    (record {
      outcome = c.create.result;
      leaves = c.leave.ensures;
      fresh = make.ok;
      possible = make.made;
      exact = make.exact;
      empty = make.empty;
      not_empty = make.not_empty;
      kept = make.analyzer;
    }))
