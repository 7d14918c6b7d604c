use Rattle.std.proofs.Common.{ap, of_z, rules, to_z, ◌≡◌}
use Rattle.std.proofs.lemmas.Int.{to_z-of_z}
use mir.Syntax.{w64}
use mir.Val.{SFits}
use Rattle.definitions.specs.Query.{phrase}
use Rattle.definitions.specs.Scoring.{natural}
use Rattle.leaf_weights.specs.PhraseWeights.{slop_of, terms_of}
use Rattle.weights.proofs.LeafLaws.{found_scores, phrase_bound, phrase_fits}
use Rattle.weights.proofs.weighed_phrases.PhraseWeightSegmentWeight.scorer.Goals as goal

pub phrase_scorer-requires-clause-fits : goal.phrase_scorer-requires-clause-fits
phrase_scorer-requires-clause-fits c =
    let fits : SFits w64 c.args.boost = search rules in
    let boost : natural (to_z w64 (of_z w64 c.args.boost)) ≡ natural c.args.boost = ap natural (to_z-of_z w64 c.args.boost fits) in
    phrase_fits c.args.self.now (natural c.args.boost) (natural (to_z w64 (of_z w64 c.args.boost))) boost c.requires.accepted

pub returns : goal.returns
returns c sim by =
    let fits : SFits w64 c.args.boost = search rules in
    let n = natural (to_z w64 (of_z w64 c.args.boost)) in
    let boost : natural (to_z w64 (of_z w64 c.args.boost)) ≡ natural c.args.boost = ap natural (to_z-of_z w64 c.args.boost fits) in
    let w = c.args.self.now in
    let found = c.in_ok-found in
    found_scores _ sim n (natural c.args.boost) (phrase (terms_of w) (slop_of w)) c.args.reader.now found.found _ _ boost (phrase_bound w sim n by)
    (λ schema analyze docs stands passes. found.ensures.some schema analyze sim docs stands by)
    (λ schema analyze docs stands. found.ensures.none schema analyze sim docs stands)
    found.ensures.within found.ensures.bounded c.new.ensures.some c.new.ensures.none
