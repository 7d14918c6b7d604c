use Rattle.std.proofs.Common.{Some, false, refl, subst, sym, true, ◌≡◌}
use Rattle.definitions.specs.Requests as requests
use Rattle.definitions.specs.Step as steps
use Rattle.definitions.specs.declared.fault.Fault.TheVariants as faults
use Rattle.index.specs.Sessions.{HasStage, KeepsDeviceOf}
use Rattle.index.proofs.Endings.{change_tells}
use Rattle.index.proofs.KeptDevices.{same_kept, unwritten_change}
use Rattle.index.proofs.SessionSteps.{already_opened, opened_step, refused_reply, replied}
use Rattle.index.proofs.Asked.{open_asks, same_asks}
use Rattle.index.proofs.AnyLines.{already_read, read_comes}
use Rattle.index.proofs.session.Session.open.Goals as goal

pub returns-then-has_ready_index-clause-answered : goal.returns-then-has_ready_index-clause-answered
returns-then-has_ready_index-clause-answered g c s h =
    let ready : steps.is_ready s.stage ≡ true = sym (c.if-has_ready_index.ensures.stands s h) in
    refused_reply s c.args.self.now faults.AlreadyOpen _ requests.open_index h (already_opened s ready) c.reply.ensures tt

pub returns-clause-answered : goal.returns-clause-answered
returns-clause-answered g c s h =
    let not_ready : steps.is_ready s.stage ≡ false = sym (c.if-has_ready_index.ensures.stands s h) in
    replied s c.args.self.now c.reopen.new.self c.reopen.result c.answer_change.result (steps.opened s.analysis.knows (steps.held_by s.stage)) requests.open_index not_ready (opened_step s not_ready) (c.reopen.ensures.left s h not_ready)
    c.answer_change.ensures.text c.answer_change.ensures.on c.answer_change.ensures.same c.reopen.ensures.honest c.reopen.ensures.failures (c.reopen.ensures.limit s h not_ready) tt

pub returns-then-has_ready_index-clause-kept : goal.returns-then-has_ready_index-clause-kept
returns-then-has_ready_index-clause-kept g c honest unwritten = same_kept g.met.D.Device.only_now c.args.self.now.stage honest

pub returns-clause-kept : goal.returns-clause-kept
returns-clause-kept g c honest unwritten =
    unwritten_change (Some requests.open_index) c.reopen.result c.answer_change.result (KeepsDeviceOf c.args.self.now c.reopen.new.self) refl
    c.answer_change.ensures.text c.answer_change.ensures.on c.answer_change.ensures.same (c.reopen.ensures.kept honest) unwritten

pub returns-then-has_ready_index-clause-asks : goal.returns-then-has_ready_index-clause-asks
returns-then-has_ready_index-clause-asks g c honest = same_asks g.A.Analyzer.knows_name g.A.Analyzer.analyze c.args.self.now.stage (Some requests.open_index) honest

pub returns-clause-asks : goal.returns-clause-asks
returns-clause-asks g c honest =
    let knows = g.A.Analyzer.knows_name in
    let analyze = g.A.Analyzer.analyze in
    open_asks knows analyze c.args.self.now.stage c.reopen.new.self.stage
    (λ old is a s h. sym (c.if-has_ready_index.ensures.stands (record { analysis = a; stage = s }) (subst (λ o. HasStage knows analyze a o s) (sym is) h)))
    (c.reopen.ensures.opens honest)

pub returns-then-has_ready_index-clause-comes : goal.returns-then-has_ready_index-clause-comes
returns-then-has_ready_index-clause-comes g c =
    already_read g.A.Analyzer.knows_name g.A.Analyzer.analyze c.args.self.now.stage _ c.args.self.now.full (sym c.if-has_ready_index.ensures.any) c.reply.ensures

pub returns-clause-comes : goal.returns-clause-comes
returns-clause-comes g c =
    read_comes g.A.Analyzer.knows_name g.A.Analyzer.analyze c.args.self.now.stage c.reopen.new.self.stage c.reopen.result c.answer_change.result (sym c.if-has_ready_index.ensures.any) c.reopen.ensures.read (change_tells c.reopen.result c.answer_change.result c.answer_change.ensures.text c.answer_change.ensures.on c.answer_change.ensures.err c.answer_change.ensures.same)
