use Rattle.std.proofs.Common.{Some, ap, refl, subst, sym, ◌∙◌}
use Rattle.definitions.specs.declared.fault.Fault.TheVariants as faults
use Rattle.index.specs.AskedRequests.{index_request_of}
use Rattle.index.specs.Sessions.{HasStage, KeepsDevice, honest_on}
use Rattle.index.proofs.KeptDevices.{index_kept, same_kept}
use Rattle.index.proofs.SessionSteps.{index_reply, none_asked, refused_reply, same_stage}
use Rattle.index.specs.Asking.{AsksOf}
use Rattle.index.proofs.Asked.{index_asks, same_asks}
use Rattle.index.proofs.AnyLines.{index_comes, spare_comes}
use Rattle.index.proofs.session.Session.ask.Goals as goal

pub returns-in-Some-Standing-clause-answered : goal.returns-in-Some-Standing-clause-answered
returns-in-Some-Standing-clause-answered g c s h =
    let answer = c.answer.ensures in
    let m = g.met.D.Device in
    index_reply s c.args.self.now _ c.in-Some-Standing.index c.answer.new.index c.args.request c.answer.result (c.in-Some-Standing.is ∙ ap Some c.in-Some-Standing.field-0-is) refl h
    (record {
      answered = answer.answered;
      made = answer.made;
      kept = answer.kept;
      rests = answer.rests;
      honest = answer.honest;
      left = answer.left;
      failures = answer.failures;
      limit = answer.limit;
      closed = answer.closed;
      failed = answer.failed;
      counts_now = m.counts_now;
      remains = m.remains;
    })

pub returns-in-Some-Spare-clause-answered : goal.returns-in-Some-Spare-clause-answered
returns-in-Some-Spare-clause-answered g c s h =
    let knows = g.A.Analyzer.knows_name in
    let analyze = g.A.Analyzer.analyze in
    let has = subst (λ o. HasStage knows analyze s.analysis o s.stage) (c.in-Some-Spare.is ∙ ap Some c.in-Some-Spare.field-0-is) h in
    same_stage s c.args.self.now _ (Some (index_request_of c.args.request)) _ (sym c.in-Some-Spare.is)
    (refused_reply s c.args.self.now faults.NotOpen _ (index_request_of c.args.request) h (none_asked g.D.Device g.A.Analyzer knows analyze s.analysis s.stage _ _ c.args.request has) c.reply.ensures tt)

pub returns-in-Some-Standing-clause-honest : goal.returns-in-Some-Standing-clause-honest
returns-in-Some-Standing-clause-honest g c = c.answer.ensures.honest ∙ sym (ap honest_on (c.in-Some-Standing.is ∙ ap Some c.in-Some-Standing.field-0-is))

pub returns-in-Some-Spare-clause-honest : goal.returns-in-Some-Spare-clause-honest
returns-in-Some-Spare-clause-honest g c = ap honest_on (sym c.in-Some-Spare.is)

pub returns-in-Some-Standing-clause-kept : goal.returns-in-Some-Standing-clause-kept
returns-in-Some-Standing-clause-kept g c honest unwritten =
    index_kept g.met.D.Device.only_now c.in-Some-Standing.index c.answer.new.index c.args.self.now.stage _ (c.in-Some-Standing.is ∙ ap Some c.in-Some-Standing.field-0-is) refl (c.answer.ensures.file unwritten).0 honest

pub returns-in-Some-Spare-clause-kept : goal.returns-in-Some-Spare-clause-kept
returns-in-Some-Spare-clause-kept g c honest unwritten = subst (KeepsDevice c.args.self.now.stage) c.in-Some-Spare.is (same_kept g.met.D.Device.only_now c.args.self.now.stage honest)

pub returns-in-Some-Standing-clause-asks : goal.returns-in-Some-Standing-clause-asks
returns-in-Some-Standing-clause-asks g c honest =
    index_asks g.A.Analyzer.knows_name g.A.Analyzer.analyze c.in-Some-Standing.index c.answer.new.index c.args.self.now.stage _ (index_request_of c.args.request) (c.in-Some-Standing.is ∙ ap Some c.in-Some-Standing.field-0-is) refl c.answer.ensures.asks

pub returns-in-Some-Spare-clause-asks : goal.returns-in-Some-Spare-clause-asks
returns-in-Some-Spare-clause-asks g c honest =
    let knows = g.A.Analyzer.knows_name in
    let analyze = g.A.Analyzer.analyze in
    let asked = Some (index_request_of c.args.request) in
    subst (λ o. AsksOf knows analyze c.args.self.now.stage o asked) c.in-Some-Spare.is (same_asks knows analyze c.args.self.now.stage asked honest)

pub returns-in-Some-Standing-clause-comes : goal.returns-in-Some-Standing-clause-comes
returns-in-Some-Standing-clause-comes g c =
    index_comes g.A.Analyzer.knows_name g.A.Analyzer.analyze c.in-Some-Standing.index c.answer.new.index c.args.self.now.stage _ (index_request_of c.args.request) c.answer.result (c.in-Some-Standing.is ∙ ap Some c.in-Some-Standing.field-0-is) refl c.answer.ensures.comes

pub returns-in-Some-Spare-clause-comes : goal.returns-in-Some-Spare-clause-comes
returns-in-Some-Spare-clause-comes g c =
    spare_comes g.A.Analyzer.knows_name g.A.Analyzer.analyze c.args.self.now.stage _ _ _ c.args.request _ (c.in-Some-Spare.is ∙ ap Some c.in-Some-Spare.field-0-is) c.in-Some-Spare.is c.reply.ensures
