use Rattle.std.proofs.Common.{arith}
use Rattle.std.proofs.lemmas.Result.{on_ok_weaker}
use Rattle.query_trees.specs.Queries.{clauses_of}
use Rattle.compound_walks.proofs.ClauseAnswers.{fed_answered, few_answered}
use Rattle.query_scorers.proofs.AcceptedParts.{clauses_accepted, clauses_fit}
use Rattle.compound_walks.proofs.clause_walks.feed_clauses.Goals as goal

pub scorers_asked-requires-clause-accepted : goal.scorers_asked-requires-clause-accepted
scorers_asked-requires-clause-accepted g c = clauses_accepted (g.W.LeafWeights.similarity c.args.forms.now.weights.now).weight 1 _ _ c.requires.accepted

pub scorers_asked-requires-2-clause-accepted : goal.scorers_asked-requires-2-clause-accepted
scorers_asked-requires-2-clause-accepted g c = clauses_accepted (g.W.LeafWeights.similarity c.args.forms.now.weights.now).weight 1 _ _ c.requires.accepted

pub scorers_asked-requires-3-clause-accepted : goal.scorers_asked-requires-3-clause-accepted
scorers_asked-requires-3-clause-accepted g c = clauses_accepted (g.W.LeafWeights.similarity c.args.forms.now.weights.now).weight 1 _ _ c.requires.accepted

pub feed_any_together-requires-clause-fits : goal.feed_any_together-requires-clause-fits
feed_any_together-requires-clause-fits g c =
    let sim = g.W.LeafWeights.similarity c.args.forms.now.weights.now in
    let r = c.args.forms.now.reader.now in
    let most = clauses_fit sim 1 r (clauses_of c.args.clauses.now) c.args.minimum_number_should_match _ _ c.requires.accepted c.in_ok-musts.ensures c.in_ok-shoulds.ensures in
    let same = c.keep_some.ensures.greatest in
    omega (arith, most, same)

pub feed_any_together-requires-clause-room : goal.feed_any_together-requires-clause-room
feed_any_together-requires-clause-room g c =
    let sim = g.W.LeafWeights.similarity c.args.forms.now.weights.now in
    let r = c.args.forms.now.reader.now in
    let room = c.requires.room in
    λ es has. (let many = few_answered sim 1 r (clauses_of c.args.clauses.now) c.args.minimum_number_should_match _ _ _ c.in_ok-musts.ensures c.in_ok-shoulds.ensures c.in_ok-must_nots.ensures r.few _ _ c.keep_some.ensures c.keep_some-2.ensures es has in
    omega (arith, many, room))

pub returns-clause-fed : goal.returns-clause-fed
returns-clause-fed g c =
    let sim = g.W.LeafWeights.similarity c.args.forms.now.weights.now in
    let r = c.args.forms.now.reader.now in
    on_ok_weaker c.feed_any_together.result (fed_answered sim 1 r (clauses_of c.args.clauses.now) c.args.minimum_number_should_match _ _ _ c.in_ok-musts.ensures c.in_ok-shoulds.ensures c.in_ok-must_nots.ensures r.few _ _ c.keep_some.ensures c.keep_some-2.ensures g.K.Sink.limit g.K.Sink.taken _ _) c.feed_any_together.ensures.fed
