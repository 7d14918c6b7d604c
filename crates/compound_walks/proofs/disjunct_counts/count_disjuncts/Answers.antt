use Rattle.std.proofs.Common.{pos, refl}
use Rattle.std.proofs.lemmas.Result.{IfOk-weaker}
use Rattle.query_trees.specs.Queries.{queries_of}
use Rattle.compound_walks.proofs.BestAnswers.{best_answered, bounds_fit, counts_best, have_equal}
use Rattle.compound_walks.proofs.disjunct_counts.count_disjuncts.Goals as goal

pub count_any-requires-clause-fits : goal.count_any-requires-clause-fits
count_any-requires-clause-fits g c = bounds_fit (g.W.LeafWeights.similarity c.args.forms.now.weights.now) 1 c.args.forms.now.reader.now (queries_of c.args.disjuncts.now) _ _ c.keep_some.ensures c.requires.fits c.in_ok-scorers.ensures

pub count_any-requires-clause-within : goal.count_any-requires-clause-within
count_any-requires-clause-within g c =
    let r = c.args.forms.now.reader.now in
    λ tie es has. (best_answered (g.W.LeafWeights.similarity c.args.forms.now.weights.now) 1 r r.few (queries_of c.args.disjuncts.now) (pos tie) (pos tie) refl _ _ c.keep_some.ensures c.in_ok-scorers.ensures es has).within

pub returns-then-not-are_terms : goal.returns-then-not-are_terms
returns-then-not-are_terms g c =
    let r = c.args.forms.now.reader.now in
    IfOk-weaker c.count_any.result _ _ (counts_best (g.W.LeafWeights.similarity c.args.forms.now.weights.now) 1 r r.few (queries_of c.args.disjuncts.now) _ _ c.keep_some.ensures c.in_ok-scorers.ensures) c.count_any.ensures

pub count_any-requires-2-clause-fits : goal.count_any-requires-2-clause-fits
count_any-requires-2-clause-fits g c = bounds_fit (g.W.LeafWeights.similarity c.args.forms.now.weights.now) 1 c.args.forms.now.reader.now (queries_of c.args.disjuncts.now) _ _ (have_equal _ _ _ c.in_ok-terms.ensures c.keep_some.ensures) c.requires.fits c.in_ok-scorers.ensures

pub count_any-requires-2-clause-within : goal.count_any-requires-2-clause-within
count_any-requires-2-clause-within g c =
    let r = c.args.forms.now.reader.now in
    λ tie es has. (best_answered (g.W.LeafWeights.similarity c.args.forms.now.weights.now) 1 r r.few (queries_of c.args.disjuncts.now) (pos tie) (pos tie) refl _ _ (have_equal _ _ _ c.in_ok-terms.ensures c.keep_some.ensures) c.in_ok-scorers.ensures es has).within

pub returns : goal.returns
returns g c =
    let r = c.args.forms.now.reader.now in
    IfOk-weaker c.count_any-2.result _ _ (counts_best (g.W.LeafWeights.similarity c.args.forms.now.weights.now) 1 r r.few (queries_of c.args.disjuncts.now) _ _ (have_equal _ _ _ c.in_ok-terms.ensures c.keep_some.ensures) c.in_ok-scorers.ensures) c.count_any-2.ensures
