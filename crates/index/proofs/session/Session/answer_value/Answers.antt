use Rattle.std.proofs.Common.{ap, option_map, subst, sym, ◌∙◌}
use Rattle.index.specs.AskedRequests.{request_of}
use Rattle.index.specs.Sessions.{Replies}
use Rattle.index.specs.Replying.{IsUnwritten}
use Rattle.index.proofs.KeptDevices.{same_kept}
use Rattle.index.proofs.SessionSteps.{unasked_reply}
use Rattle.index.specs.Asking.{AsksOf}
use Rattle.index.proofs.Asked.{same_asks}
use Rattle.index.specs.Outcomes.{ComesTo}
use Rattle.index.proofs.AnyLines.{none_comes}
use Rattle.index.proofs.session.Session.answer_value.Goals as goal

pub returns-in-Some-clause-answered : goal.returns-in-Some-clause-answered
returns-in-Some-clause-answered g c s h =
    subst (λ q. Replies c.args.self.now c.answer.new.self s q c.answer.result) (ap (option_map request_of) (sym c.in-Some.is) ∙ c.request_in.ensures) (c.answer.ensures.answered s h)

pub returns-in-None-clause-answered : goal.returns-in-None-clause-answered
returns-in-None-clause-answered g c s h = unasked_reply s c.args.self.now _ _ (ap (option_map request_of) (sym c.in-None.is) ∙ c.request_in.ensures) h c.reply.ensures

pub returns-in-Some-clause-kept : goal.returns-in-Some-clause-kept
returns-in-Some-clause-kept g c honest unwritten =
    c.answer.ensures.kept honest (subst (λ q. IsUnwritten q c.answer.result) (sym (ap (option_map request_of) (sym c.in-Some.is) ∙ c.request_in.ensures)) unwritten)

pub returns-in-None-clause-kept : goal.returns-in-None-clause-kept
returns-in-None-clause-kept g c honest unwritten = same_kept g.met.D.Device.only_now c.args.self.now.stage honest

pub returns-in-Some-clause-asks : goal.returns-in-Some-clause-asks
returns-in-Some-clause-asks g c honest =
    subst (λ q. AsksOf g.A.Analyzer.knows_name g.A.Analyzer.analyze c.args.self.now.stage c.answer.new.self.stage q) (ap (option_map request_of) (sym c.in-Some.is) ∙ c.request_in.ensures) (c.answer.ensures.asks honest)

pub returns-in-None-clause-asks : goal.returns-in-None-clause-asks
returns-in-None-clause-asks g c honest = same_asks g.A.Analyzer.knows_name g.A.Analyzer.analyze c.args.self.now.stage _ honest

pub returns-in-Some-clause-comes : goal.returns-in-Some-clause-comes
returns-in-Some-clause-comes g c =
    subst (λ q. ComesTo g.A.Analyzer.knows_name g.A.Analyzer.analyze c.args.self.now.stage c.answer.new.self.stage q c.answer.result) (ap (option_map request_of) (sym c.in-Some.is) ∙ c.request_in.ensures) c.answer.ensures.comes

pub returns-in-None-clause-comes : goal.returns-in-None-clause-comes
returns-in-None-clause-comes g c =
    none_comes g.A.Analyzer.knows_name g.A.Analyzer.analyze c.args.self.now.stage _ _ c.args.self.now.full (ap (option_map request_of) (sym c.in-None.is) ∙ c.request_in.ensures) c.reply.ensures
