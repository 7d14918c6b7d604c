use Rattle.std.proofs.Common.{ap, arith, pos, rules, subst, sym, ◌≤ℤ◌}
use Rattle.std.proofs.lemmas.Int.{to_z-of_z}
use Rattle.std.proofs.lemmas.Result.{on_ok_weaker}
use mir.Syntax.{w64}
use mir.Val.{SFits}
use Rattle.docsets.specs.Members.{greatest_sum}
use Rattle.query_trees.specs.Queries.{queries_of}
use Rattle.compound_walks.proofs.BestAnswers.{fed_best, few_best, have_equal}
use Rattle.query_scorers.proofs.AcceptedParts.{queries_accepted, queries_fit, tie_positive, tie_small}
use Rattle.compound_walks.proofs.disjunct_walks.feed_disjuncts.Goals as goal

pub scorers_of-requires-clause-accepted : goal.scorers_of-requires-clause-accepted
scorers_of-requires-clause-accepted g c = queries_accepted (g.W.LeafWeights.similarity c.args.forms.now.weights.now).weight 1 _ _ c.requires.accepted

pub feed_best-requires-clause-positive : goal.feed_best-requires-clause-positive
feed_best-requires-clause-positive g c =
    let fits : SFits w64 c.args.tie_breaker = search rules in
    subst (λ z. pos 0 ≤ℤ z) (sym (to_z-of_z w64 c.args.tie_breaker fits)) (tie_positive (g.W.LeafWeights.similarity c.args.forms.now.weights.now).weight 1 _ _ c.requires.accepted)

pub feed_best-requires-clause-share : goal.feed_best-requires-clause-share
feed_best-requires-clause-share g c =
    let fits : SFits w64 c.args.tie_breaker = search rules in
    subst (λ z. z ≤ℤ pos 1000) (sym (to_z-of_z w64 c.args.tie_breaker fits)) (tie_small (g.W.LeafWeights.similarity c.args.forms.now.weights.now).weight 1 _ _ c.requires.accepted)

pub feed_best-requires-clause-fits : goal.feed_best-requires-clause-fits
feed_best-requires-clause-fits g c =
    let sim = g.W.LeafWeights.similarity c.args.forms.now.weights.now in
    let most = queries_fit sim 1 c.args.forms.now.reader.now (queries_of c.args.disjuncts.now) _ _ c.requires.accepted c.in_ok-scorers.ensures in
    let kept = c.keep_some.ensures.greatest in
    omega (arith, most, kept)

pub feed_best-requires-clause-room : goal.feed_best-requires-clause-room
feed_best-requires-clause-room g c =
    let sim = g.W.LeafWeights.similarity c.args.forms.now.weights.now in
    let r = c.args.forms.now.reader.now in
    let fits : SFits w64 c.args.tie_breaker = search rules in
    let room = c.requires.room in
    λ es has. (let many = few_best sim 1 r r.few (queries_of c.args.disjuncts.now) c.args.tie_breaker _ (to_z-of_z w64 c.args.tie_breaker fits) _ _ c.keep_some.ensures c.in_ok-scorers.ensures es has in omega (arith, many, room))

pub returns-then-not-are_terms-clause-fed : goal.returns-then-not-are_terms-clause-fed
returns-then-not-are_terms-clause-fed g c =
    let sim = g.W.LeafWeights.similarity c.args.forms.now.weights.now in
    let r = c.args.forms.now.reader.now in
    let fits : SFits w64 c.args.tie_breaker = search rules in
    on_ok_weaker c.feed_best.result (fed_best sim 1 r r.few (queries_of c.args.disjuncts.now) c.args.tie_breaker _ (to_z-of_z w64 c.args.tie_breaker fits) _ _ c.keep_some.ensures c.in_ok-scorers.ensures g.K.Sink.limit g.K.Sink.taken _ _) c.feed_best.ensures.fed

pub feed_best-requires-2-clause-positive : goal.feed_best-requires-2-clause-positive
feed_best-requires-2-clause-positive g c =
    let fits : SFits w64 c.args.tie_breaker = search rules in
    subst (λ z. pos 0 ≤ℤ z) (sym (to_z-of_z w64 c.args.tie_breaker fits)) (tie_positive (g.W.LeafWeights.similarity c.args.forms.now.weights.now).weight 1 _ _ c.requires.accepted)

pub feed_best-requires-2-clause-share : goal.feed_best-requires-2-clause-share
feed_best-requires-2-clause-share g c =
    let fits : SFits w64 c.args.tie_breaker = search rules in
    subst (λ z. z ≤ℤ pos 1000) (sym (to_z-of_z w64 c.args.tie_breaker fits)) (tie_small (g.W.LeafWeights.similarity c.args.forms.now.weights.now).weight 1 _ _ c.requires.accepted)

pub feed_best-requires-2-clause-fits : goal.feed_best-requires-2-clause-fits
feed_best-requires-2-clause-fits g c =
    let sim = g.W.LeafWeights.similarity c.args.forms.now.weights.now in
    let most = queries_fit sim 1 c.args.forms.now.reader.now (queries_of c.args.disjuncts.now) _ _ c.requires.accepted c.in_ok-scorers.ensures in
    let kept = c.keep_some.ensures.greatest in
    let same = ap greatest_sum c.in_ok-terms.ensures in
    omega (arith, most, kept, same)

pub feed_best-requires-2-clause-room : goal.feed_best-requires-2-clause-room
feed_best-requires-2-clause-room g c =
    let sim = g.W.LeafWeights.similarity c.args.forms.now.weights.now in
    let r = c.args.forms.now.reader.now in
    let fits : SFits w64 c.args.tie_breaker = search rules in
    let room = c.requires.room in
    λ es has. (let many = few_best sim 1 r r.few (queries_of c.args.disjuncts.now) c.args.tie_breaker _ (to_z-of_z w64 c.args.tie_breaker fits) _ _ (have_equal _ _ _ c.in_ok-terms.ensures c.keep_some.ensures) c.in_ok-scorers.ensures es has in omega (arith, many, room))

pub returns-clause-fed : goal.returns-clause-fed
returns-clause-fed g c =
    let sim = g.W.LeafWeights.similarity c.args.forms.now.weights.now in
    let r = c.args.forms.now.reader.now in
    let fits : SFits w64 c.args.tie_breaker = search rules in
    on_ok_weaker c.feed_best-2.result (fed_best sim 1 r r.few (queries_of c.args.disjuncts.now) c.args.tie_breaker _ (to_z-of_z w64 c.args.tie_breaker fits) _ _ (have_equal _ _ _ c.in_ok-terms.ensures c.keep_some.ensures) c.in_ok-scorers.ensures g.K.Sink.limit g.K.Sink.taken _ _) c.feed_best-2.ensures.fed
