use Rattle.std.proofs.Common.{arith}
use Rattle.std.proofs.lemmas.Result.{IfOk-weaker}
use Rattle.query_trees.specs.Queries.{clauses_of}
use Rattle.compound_walks.proofs.ClauseAnswers.{answered}
use Rattle.scorer_answers.proofs.AnswerLaws.{scores_match}
use Rattle.query_scorers.proofs.AcceptedParts.{clauses_accepted, clauses_fit}
use Rattle.compound_walks.proofs.clause_counts.count_clauses.Goals as goal

pub scorers_asked-requires-clause-accepted : goal.scorers_asked-requires-clause-accepted
scorers_asked-requires-clause-accepted g c = clauses_accepted (g.W.LeafWeights.similarity c.args.forms.now.weights.now).weight 1 _ _ c.requires

pub scorers_asked-requires-2-clause-accepted : goal.scorers_asked-requires-2-clause-accepted
scorers_asked-requires-2-clause-accepted g c = clauses_accepted (g.W.LeafWeights.similarity c.args.forms.now.weights.now).weight 1 _ _ c.requires

pub scorers_asked-requires-3-clause-accepted : goal.scorers_asked-requires-3-clause-accepted
scorers_asked-requires-3-clause-accepted g c = clauses_accepted (g.W.LeafWeights.similarity c.args.forms.now.weights.now).weight 1 _ _ c.requires

pub count_any_together-requires-clause-fits : goal.count_any_together-requires-clause-fits
count_any_together-requires-clause-fits g c =
    let sim = g.W.LeafWeights.similarity c.args.forms.now.weights.now in
    let r = c.args.forms.now.reader.now in
    let most = clauses_fit sim 1 r (clauses_of c.args.clauses.now) c.args.minimum_number_should_match _ _ c.requires c.in_ok-musts.ensures c.in_ok-shoulds.ensures in
    let same = c.keep_some.ensures.greatest in
    omega (arith, most, same)

pub count_any_together-requires-clause-within : goal.count_any_together-requires-clause-within
count_any_together-requires-clause-within g c =
    let sim = g.W.LeafWeights.similarity c.args.forms.now.weights.now in
    let r = c.args.forms.now.reader.now in
    λ es has. (answered sim 1 r (clauses_of c.args.clauses.now) c.args.minimum_number_should_match _ _ _ c.in_ok-musts.ensures c.in_ok-shoulds.ensures c.in_ok-must_nots.ensures r.few _ _ c.keep_some.ensures c.keep_some-2.ensures es has).within

pub returns : goal.returns
returns g c =
    let sim = g.W.LeafWeights.similarity c.args.forms.now.weights.now in
    let r = c.args.forms.now.reader.now in
    IfOk-weaker c.count_any_together.result _ _ (λ n is. is sim.weight 1 _ (λ es has. scores_match sim 1 _ r es (answered sim 1 r (clauses_of c.args.clauses.now) c.args.minimum_number_should_match _ _ _ c.in_ok-musts.ensures c.in_ok-shoulds.ensures c.in_ok-must_nots.ensures r.few _ _ c.keep_some.ensures c.keep_some-2.ensures es has))) c.count_any_together.ensures
