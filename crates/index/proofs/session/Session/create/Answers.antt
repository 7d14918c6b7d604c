use Rattle.std.proofs.Common.{Some, false, option_map, refl, subst, sym, true, ◌≡◌}
use Rattle.definitions.specs.Requests as requests
use Rattle.definitions.specs.Step as steps
use Rattle.definitions.specs.declared.fault.Fault.TheVariants as faults
use Rattle.definitions.specs.Replying.{stops}
use Rattle.index.specs.Sessions.{HasStage, KeepsDeviceOf}
use Rattle.index.proofs.Endings.{change_tells, refusal_tells}
use Rattle.index.proofs.Answering.{going_on}
use Rattle.index.proofs.Causes.{stop_is_memory, unread_goes_on}
use Rattle.index.proofs.KeptDevices.{same_kept, unwritten_change}
use Rattle.index.proofs.SessionSteps.{already_made, created_step, refused_reply, replied, unread_step}
use Rattle.serde_json.specs.View.{view}
use Rattle.index.proofs.Asked.{create_asks, same_asks}
use Rattle.index.proofs.AnyLines.{already_created, made_comes, unread_comes}
use Rattle.index_file.proofs.Results.{OnOk-map as on_map}
use Rattle.index.proofs.session.Session.create.Goals as goal

pub returns-then-has_ready_index-clause-answered : goal.returns-then-has_ready_index-clause-answered
returns-then-has_ready_index-clause-answered g c s h =
    let d = view c.args.schema.now in
    let more = option_map (λ x. view x.now) c.args.settings in
    let ready : steps.is_ready s.stage ≡ true = sym (c.if-has_ready_index.ensures.stands s h) in
    refused_reply s c.args.self.now faults.AlreadyOpen _ (requests.create_index d more) h (already_made s d more ready) c.reply.ensures tt

pub returns-in-Err-clause-answered : goal.returns-in-Err-clause-answered
returns-in-Err-clause-answered g c s h =
    let d = view c.args.schema.now in
    let more = option_map (λ x. view x.now) c.args.settings in
    let fault = c.in-Err.fault in
    let not_ready : steps.is_ready s.stage ≡ false = sym (c.if-has_ready_index.ensures.stands s h) in
    refused_reply s c.args.self.now fault c.refusal.result (requests.create_index d more) h
    (on_map c.refusal.result (stops fault ≡ false) (steps.stage_step s.analysis s.stage (requests.create_index d more) ≡ steps.refusing fault s.stage)
    (λ on. unread_step s d more fault not_ready (c.in-Err.ensures.err (going_on fault faults.OutOfMemory on refl))) c.refusal.ensures.on)
    c.refusal.ensures.text
    (stop_is_memory fault c.refusal.result (λ other. unread_goes_on d more fault (c.in-Err.ensures.err other)) c.refusal.ensures.same c.refusal.ensures.err)

pub returns-in-Ok-clause-answered : goal.returns-in-Ok-clause-answered
returns-in-Ok-clause-answered g c s h =
    let d = view c.args.schema.now in
    let more = option_map (λ x. view x.now) c.args.settings in
    let not_ready : steps.is_ready s.stage ≡ false = sym (c.if-has_ready_index.ensures.stands s h) in
    replied s c.args.self.now c.make.new.self c.make.result c.answer_change.result _ (requests.create_index d more) not_ready (created_step s d more _ _ not_ready c.in-Ok.ensures.ok.0 c.in-Ok.ensures.ok.1) (c.make.ensures.left s h not_ready)
    c.answer_change.ensures.text c.answer_change.ensures.on c.answer_change.ensures.same c.make.ensures.honest c.make.ensures.failures c.make.ensures.limit (_, c.in-Ok.ensures.ok.0, _, c.in-Ok.ensures.ok.1)

pub returns-then-has_ready_index-clause-kept : goal.returns-then-has_ready_index-clause-kept
returns-then-has_ready_index-clause-kept g c honest unwritten = same_kept g.met.D.Device.only_now c.args.self.now.stage honest

pub returns-in-Err-clause-kept : goal.returns-in-Err-clause-kept
returns-in-Err-clause-kept g c honest unwritten = same_kept g.met.D.Device.only_now c.args.self.now.stage honest

pub returns-in-Ok-clause-kept : goal.returns-in-Ok-clause-kept
returns-in-Ok-clause-kept g c honest unwritten =
    unwritten_change (Some (requests.create_index (view c.args.schema.now) (option_map (λ x. view x.now) c.args.settings))) c.make.result c.answer_change.result (KeepsDeviceOf c.args.self.now c.make.new.self) refl
    c.answer_change.ensures.text c.answer_change.ensures.on c.answer_change.ensures.same (c.make.ensures.kept honest) unwritten

pub returns-then-has_ready_index-clause-asks : goal.returns-then-has_ready_index-clause-asks
returns-then-has_ready_index-clause-asks g c honest = same_asks g.A.Analyzer.knows_name g.A.Analyzer.analyze c.args.self.now.stage _ honest

pub returns-in-Err-clause-asks : goal.returns-in-Err-clause-asks
returns-in-Err-clause-asks g c honest = same_asks g.A.Analyzer.knows_name g.A.Analyzer.analyze c.args.self.now.stage _ honest

pub returns-in-Ok-clause-asks : goal.returns-in-Ok-clause-asks
returns-in-Ok-clause-asks g c honest =
    let knows = g.A.Analyzer.knows_name in
    let analyze = g.A.Analyzer.analyze in
    create_asks knows analyze c.args.self.now.stage c.make.new.self.stage (view c.args.schema.now) (option_map (λ x. view x.now) c.args.settings)
    (λ old is a s h. sym (c.if-has_ready_index.ensures.stands (record { analysis = a; stage = s }) (subst (λ o. HasStage knows analyze a o s) (sym is) h)))
    (c.make.ensures.creates honest)

pub returns-then-has_ready_index-clause-comes : goal.returns-then-has_ready_index-clause-comes
returns-then-has_ready_index-clause-comes g c =
    already_created g.A.Analyzer.knows_name g.A.Analyzer.analyze c.args.self.now.stage (view c.args.schema.now) (option_map (λ x. view x.now) c.args.settings) _ c.args.self.now.full (sym c.if-has_ready_index.ensures.any) c.reply.ensures

pub returns-in-Err-clause-comes : goal.returns-in-Err-clause-comes
returns-in-Err-clause-comes g c =
    unread_comes g.A.Analyzer.knows_name g.A.Analyzer.analyze c.args.self.now.stage (view c.args.schema.now) (option_map (λ x. view x.now) c.args.settings) c.in-Err.fault c.refusal.result c.args.self.now.full (sym c.if-has_ready_index.ensures.any) c.in-Err.ensures.err (refusal_tells c.in-Err.fault c.refusal.result c.refusal.ensures.text c.refusal.ensures.on c.refusal.ensures.err c.refusal.ensures.same)

pub returns-in-Ok-clause-comes : goal.returns-in-Ok-clause-comes
returns-in-Ok-clause-comes g c =
    made_comes g.A.Analyzer.knows_name g.A.Analyzer.analyze c.args.self.now.stage c.make.new.self.stage (view c.args.schema.now) (option_map (λ x. view x.now) c.args.settings) _ _ c.make.result c.answer_change.result (sym c.if-has_ready_index.ensures.any) c.in-Ok.ensures.ok.0 c.in-Ok.ensures.ok.1 c.make.ensures.made (change_tells c.make.result c.answer_change.result c.answer_change.ensures.text c.answer_change.ensures.on c.answer_change.ensures.err c.answer_change.ensures.same)
