use Rattle.std.proofs.Common.{IfErr, Some, subst, sym, ◌≡◌, ◌≢◌}
use Rattle.definitions.specs.Disk.{HasCause}
use Rattle.definitions.specs.Step as steps
use Rattle.definitions.specs.declared.fault.Fault.TheVariants as faults
use Rattle.std.specs.Prelude.{IsErrOf}
use Rattle.index_file.specs.Kept.{IsKept}
use Rattle.index.specs.Sessions.{LeavesStage, device_on}
use Rattle.index.proofs.Stages.{held_honest, open_left, opened_no_limit, stage_failures, stage_honest, stage_kept}
use Rattle.index.specs.Asking.{Opens}
use Rattle.index.proofs.Asked.{opens_of}
use Rattle.index.specs.Outcomes.{IsRead}
use Rattle.index.specs.Sessions.{analyzer_on}
use Rattle.index.proofs.stage.Stage.open.Goals as goal

pub returns-clause-left : goal.returns-clause-left
returns-clause-left g c a s h not_ready =
    let knows = g.A.Analyzer.knows_name in
    let analyze = g.A.Analyzer.analyze in
    subst (λ r. LeavesStage knows analyze a (steps.held_by s) (Some r.0) r.1 (steps.opened a.knows (steps.held_by s))) (sym c.leave.ensures)
    (open_left g.D.Device g.A.Analyzer knows analyze a c.into_device-device.result.0 c.into_device-device.result.1 (steps.held_by s) c.open.result (c.into_device-device.ensures.spare a s h not_ready)
    c.open.ensures.opened c.open.ensures.known c.open.ensures.refused c.open.ensures.analyzer c.open.ensures.honest c.open.ensures.kept)

pub returns-clause-honest : goal.returns-clause-honest
returns-clause-honest g c =
    let d = g.D.Device in
    subst (λ r. d.honest (device_on r.0) ≡ d.honest (device_on c.args.self)) (sym c.leave.ensures)
    (stage_honest (device_on c.args.self) c.into_device-device.result.0 c.open.result c.into_device-device.ensures.device c.open.ensures.honest)

pub returns-clause-failures : goal.returns-clause-failures
returns-clause-failures g c =
    let d = g.D.Device in
    subst (λ r. HasCause (d.failed (device_on c.args.self)) (d.failed (device_on r.0)) r.1) (sym c.leave.ensures)
    (stage_failures (device_on c.args.self) c.into_device-device.result.0 c.open.result c.into_device-device.ensures.device c.open.ensures.cause)

pub returns-clause-limit : goal.returns-clause-limit
returns-clause-limit g c a s h not_ready =
    let d = g.D.Device in
    let device = c.into_device-device.result.0 in
    let spare = c.into_device-device.ensures.spare a s h not_ready in
    subst (λ r. ¬ IsErrOf r.1 faults.Limit) (sym c.leave.ensures)
    (opened_no_limit (g.A.Analyzer.knows_name c.into_device-device.result.1) (d.content device) c.open.result (c.open.ensures.refused (held_honest d.honest d.content a.analyze device (steps.held_by s) spare.1)))

pub returns-clause-kept : goal.returns-clause-kept
returns-clause-kept g c honest =
    let d = g.D.Device in
    let old = device_on c.args.self in
    subst (λ r. IfErr r.1 (λ fault. fault ≢ faults.Device → IsKept d.moment d.left_since d.content d.unsynced old (device_on r.0))) (sym c.leave.ensures)
    (stage_kept old c.into_device-device.result.0 c.open.result c.into_device-device.ensures.device c.open.ensures.kept honest)

pub returns-clause-opens : goal.returns-clause-opens
returns-clause-opens g c =
    subst (λ r. Opens c.args.self r.0) (sym c.leave.ensures)
    (opens_of c.args.self c.into_device-device.result.0 c.open.result c.into_device-device.ensures.device c.open.ensures.images)

pub returns-clause-read : goal.returns-clause-read
returns-clause-read g c =
    let knows = g.A.Analyzer.knows_name in
    let analyze = g.A.Analyzer.analyze in
    let open_ = c.open.ensures in
    let left = c.leave.result in
    subst (λ e. IsRead knows analyze e (analyzer_on c.args.self) left) c.into_device-device.ensures.device
    (subst (λ f. IsRead knows analyze c.into_device-device.result.0 f left) c.into_device-device.ensures.analyzer
    (record {
      outcome = c.open.result;
      leaves = c.leave.ensures;
      opened = open_.opened;
      idle = open_.idle;
      known = open_.known;
      exact = open_.refused;
      any_device = open_.faults;
      kept = open_.analyzer;
    }))
