use Rattle.std.proofs.Common.{ap, subst, sym, ◌∙◌, ⊎_elim}
use Rattle.definitions.specs.Step as steps
use Rattle.index.specs.Sessions.{IsStage}
use Rattle.index.proofs.stage.Stage.is_ready.Goals as goal

-- an index that stands takes calls by its status
pub returns-in-Standing-clause-stands : goal.returns-in-Standing-clause-stands
returns-in-Standing-clause-stands g c a (steps.no_index held) h = absurd (subst (λ t. IsStage g.A.Analyzer.knows_name g.A.Analyzer.analyze a t (steps.no_index held)) c.in-Standing.is h)
returns-in-Standing-clause-stands g c a (steps.index_of fields numbers x) h =
    let index = subst (λ t. IsStage g.A.Analyzer.knows_name g.A.Analyzer.analyze a t (steps.index_of fields numbers x)) c.in-Standing.is h in
    let k = steps.configuration_of fields a.analyze numbers in
    c.takes_calls.ensures ∙ ap steps.takes_calls (sym (⊎_elim
    (λ stands. c.state.ensures.stands k x stands)
    (λ closed. closed.0 ∙ sym closed.2 ∙ c.state.ensures.stands k closed.1 closed.3)
    index.stands))
