use Rattle.std.proofs.Common.{None, Some, ap, option_map, subst, sym, ◌∙◌}
use Rattle.definitions.specs.Step as steps
use Rattle.index.specs.Sessions.{Replies}
use Rattle.index.specs.Replying.{IsUnwritten}
use Rattle.index.proofs.KeptDevices.{same_kept}
use Rattle.index.proofs.SessionSteps.{line_asks, memory_reply, unasked_reply}
use Rattle.serde_json.specs.View.{view}
use Rattle.index.specs.Asking.{AsksOf}
use Rattle.index.proofs.Asked.{same_asks}
use Rattle.index.specs.Outcomes.{ComesTo}
use Rattle.index.proofs.AnyLines.{memory_comes, none_comes}
use Rattle.index.proofs.session.Session.answer_line.Goals as goal

pub returns-in_err-json-clause-answered : goal.returns-in_err-json-clause-answered
returns-in_err-json-clause-answered g c s h = memory_reply s c.args.self.now (steps.line_request c.args.line.now) c.from_residual.result h c.from_residual.ensures.1

pub returns-in-Some-clause-answered : goal.returns-in-Some-clause-answered
returns-in-Some-clause-answered g c s h =
    let asks = line_asks c.args.line.now (Some (view c.in-Some.json)) (ap (option_map view) (sym c.in-Some.is) ∙ c.in_ok-json.ensures) in
    subst (λ q. Replies c.args.self.now c.answer_value.new.self s q c.answer_value.result) (sym asks) (c.answer_value.ensures.answered s h)

pub returns-in-None-clause-answered : goal.returns-in-None-clause-answered
returns-in-None-clause-answered g c s h =
    unasked_reply s c.args.self.now (steps.line_request c.args.line.now) _ (sym (line_asks c.args.line.now None (ap (option_map view) (sym c.in-None.is) ∙ c.in_ok-json.ensures))) h c.reply.ensures

pub returns-in_err-json-clause-kept : goal.returns-in_err-json-clause-kept
returns-in_err-json-clause-kept g c honest unwritten = same_kept g.met.D.Device.only_now c.args.self.now.stage honest

pub returns-in-Some-clause-kept : goal.returns-in-Some-clause-kept
returns-in-Some-clause-kept g c honest unwritten =
    let asks = line_asks c.args.line.now (Some (view c.in-Some.json)) (ap (option_map view) (sym c.in-Some.is) ∙ c.in_ok-json.ensures) in
    c.answer_value.ensures.kept honest (subst (λ q. IsUnwritten q c.answer_value.result) asks unwritten)

pub returns-in-None-clause-kept : goal.returns-in-None-clause-kept
returns-in-None-clause-kept g c honest unwritten = same_kept g.met.D.Device.only_now c.args.self.now.stage honest

pub returns-in_err-json-clause-asks : goal.returns-in_err-json-clause-asks
returns-in_err-json-clause-asks g c honest = same_asks g.A.Analyzer.knows_name g.A.Analyzer.analyze c.args.self.now.stage _ honest

pub returns-in-Some-clause-asks : goal.returns-in-Some-clause-asks
returns-in-Some-clause-asks g c honest =
    let asks = line_asks c.args.line.now (Some (view c.in-Some.json)) (ap (option_map view) (sym c.in-Some.is) ∙ c.in_ok-json.ensures) in
    subst (λ q. AsksOf g.A.Analyzer.knows_name g.A.Analyzer.analyze c.args.self.now.stage c.answer_value.new.self.stage q) (sym asks) (c.answer_value.ensures.asks honest)

pub returns-in-None-clause-asks : goal.returns-in-None-clause-asks
returns-in-None-clause-asks g c honest = same_asks g.A.Analyzer.knows_name g.A.Analyzer.analyze c.args.self.now.stage _ honest

pub returns-in_err-json-clause-comes : goal.returns-in_err-json-clause-comes
returns-in_err-json-clause-comes g c =
    memory_comes g.A.Analyzer.knows_name g.A.Analyzer.analyze c.args.self.now.stage (steps.line_request c.args.line.now) c.from_residual.result c.args.self.now.full c.from_residual.ensures.1

pub returns-in-Some-clause-comes : goal.returns-in-Some-clause-comes
returns-in-Some-clause-comes g c =
    let asks = line_asks c.args.line.now (Some (view c.in-Some.json)) (ap (option_map view) (sym c.in-Some.is) ∙ c.in_ok-json.ensures) in
    subst (λ q. ComesTo g.A.Analyzer.knows_name g.A.Analyzer.analyze c.args.self.now.stage c.answer_value.new.self.stage q c.answer_value.result) (sym asks) c.answer_value.ensures.comes

pub returns-in-None-clause-comes : goal.returns-in-None-clause-comes
returns-in-None-clause-comes g c =
    none_comes g.A.Analyzer.knows_name g.A.Analyzer.analyze c.args.self.now.stage (steps.line_request c.args.line.now) _ c.args.self.now.full
    (sym (line_asks c.args.line.now None (ap (option_map view) (sym c.in-None.is) ∙ c.in_ok-json.ensures))) c.reply.ensures
