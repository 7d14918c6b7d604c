use Rattle.std.proofs.Common.{ap, of_z, rules, to_z, ◌≡◌}
use Rattle.std.proofs.lemmas.Int.{to_z-of_z}
use mir.Syntax.{w64}
use mir.Val.{SFits}
use Rattle.definitions.specs.Query.{term}
use Rattle.definitions.specs.Scoring.{natural}
use Rattle.term_scorer.specs.ScoredTerms.{scored_left}
use Rattle.leaf_weights.specs.TermWeights.{option_asked, term_of}
use Rattle.weights.proofs.LeafLaws.{found_scores, term_bound, term_fits}
use Rattle.weights.proofs.weighed_terms.TermWeightSegmentWeight.scorer.Goals as goal

pub term_scorer-found-requires-clause-fits : goal.term_scorer-found-requires-clause-fits
term_scorer-found-requires-clause-fits c =
    let fits : SFits w64 c.args.boost = search rules in
    let boost : natural (to_z w64 (of_z w64 c.args.boost)) ≡ natural c.args.boost = ap natural (to_z-of_z w64 c.args.boost fits) in
    term_fits c.args.self.now (natural c.args.boost) (natural (to_z w64 (of_z w64 c.args.boost))) boost c.requires.accepted

pub returns : goal.returns
returns c sim by =
    let fits : SFits w64 c.args.boost = search rules in
    let n = natural (to_z w64 (of_z w64 c.args.boost)) in
    let boost : natural (to_z w64 (of_z w64 c.args.boost)) ≡ natural c.args.boost = ap natural (to_z-of_z w64 c.args.boost fits) in
    let w = c.args.self.now in
    let found = c.term_scorer-found in
    found_scores scored_left sim n (natural c.args.boost) (term (term_of w) (option_asked w)) c.args.reader.now found.result _ _ boost (term_bound w sim n by)
    (λ schema analyze docs stands passes. found.ensures.some schema analyze sim docs stands by)
    (λ schema analyze docs stands. found.ensures.none schema analyze sim docs stands)
    found.ensures.within found.ensures.bounded c.new.ensures.some c.new.ensures.none
