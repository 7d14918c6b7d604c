use Rattle.std.proofs.Common.{ap, arith, subst, sym, to_z, ◌*◌, ◌≡◌, ◌≤◌, ◌∙◌}
use Rattle.std.proofs.lemmas.Int.{to_z_pos}
use mir.Syntax.{w64}
use Rattle.definitions.specs.Answers.{answers}
use Rattle.definitions.specs.Query.{term}
use Rattle.definitions.specs.Scoring.{max_score, natural}
use Rattle.term_scorer.specs.ScoredTerms.{scored_left}
use Rattle.leaf_weights.specs.TermWeights.{option_asked}
use Rattle.query_scorers.proofs.AcceptedParts.{fits}
use Rattle.leaf_weights.proofs.LeafScores.{none_same, nothing_scores, some_same, some_scores}
use Rattle.leaf_weights.proofs.leaf_scorers.term_query_scorer.Goals as goal

pub term_scorer-requires-clause-fits : goal.term_scorer-requires-clause-fits
term_scorer-requires-clause-fits g c =
    let sim = g.S.Statistics.similarity c.args.statistics.now in
    let small = c.requires.small in
    let boost : natural (to_z w64 c.args.boost) ≡ c.args.boost = ap natural (to_z_pos w64 c.args.boost (omega (arith, small))) in
    let most = fits sim.weight c.args.boost (term c.args.query.now.0 c.args.query.now.1) c.requires.accepted in
    let weight : c.weigh_term.result.weight ≡ sim.weight c.args.query.now.0 = (sym c.weigh_term.ensures.scores.weight_is ∙ ap sim.weight c.weigh_term.ensures.term) in
    subst (λ n. n * c.weigh_term.result.weight ≤ max_score) (sym boost) (subst (λ w. c.args.boost * w ≤ max_score) (sym weight) most)

pub returns-clause-some : goal.returns-clause-some
returns-clause-some g c =
    let sim = g.S.Statistics.similarity c.args.statistics.now in
    let small = c.requires.small in
    let boost : natural (to_z w64 c.args.boost) ≡ c.args.boost = ap natural (to_z_pos w64 c.args.boost (omega (arith, small))) in
    let weight : c.weigh_term.result.weight ≡ sim.weight c.args.query.now.0 = (sym c.weigh_term.ensures.scores.weight_is ∙ ap sim.weight c.weigh_term.ensures.term) in
    let same : term c.weigh_term.result.term.now (option_asked c.weigh_term.result) ≡ term c.args.query.now.0 c.args.query.now.1 = ap (λ t. term t (option_asked c.weigh_term.result)) c.weigh_term.ensures.term ∙ ap (term c.args.query.now.0) c.weigh_term.ensures.option in
    let scores = c.weigh_term.ensures.scores in
    some_scores scored_left sim c.args.boost (term c.args.query.now.0 c.args.query.now.1) c.args.reader.now c.term_scorer.result (natural (to_z w64 c.args.boost) * c.weigh_term.result.weight)
    (λ schema analyze docs stands passes. some_same scored_left c.term_scorer.result _ _ (ap (λ n. answers schema analyze sim n (term c.weigh_term.result.term.now (option_asked c.weigh_term.result)) docs) boost ∙ ap (λ q. answers schema analyze sim c.args.boost q docs) same) (c.term_scorer.ensures.some schema analyze sim docs stands scores))
    c.term_scorer.ensures.within c.term_scorer.ensures.bounded (ap (λ n. n * c.weigh_term.result.weight) boost ∙ ap (λ w. c.args.boost * w) weight)

pub returns-clause-none : goal.returns-clause-none
returns-clause-none g c =
    let sim = g.S.Statistics.similarity c.args.statistics.now in
    let small = c.requires.small in
    let boost : natural (to_z w64 c.args.boost) ≡ c.args.boost = ap natural (to_z_pos w64 c.args.boost (omega (arith, small))) in
    let same : term c.weigh_term.result.term.now (option_asked c.weigh_term.result) ≡ term c.args.query.now.0 c.args.query.now.1 = ap (λ t. term t (option_asked c.weigh_term.result)) c.weigh_term.ensures.term ∙ ap (term c.args.query.now.0) c.weigh_term.ensures.option in
    nothing_scores sim c.args.boost (term c.args.query.now.0 c.args.query.now.1) c.args.reader.now c.term_scorer.result
    (λ schema analyze docs stands. none_same c.term_scorer.result _ _ (ap (λ n. answers schema analyze sim n (term c.weigh_term.result.term.now (option_asked c.weigh_term.result)) docs) boost ∙ ap (λ q. answers schema analyze sim c.args.boost q docs) same) (c.term_scorer.ensures.none schema analyze sim docs stands))
