use Rattle.std.proofs.Common.{[], IfNone, IfSome, ap, arith, false, if◌then◌else◌, length, map, of_z, rules, subst, sym, to_z, true, ◌*◌, ◌==◌, ◌≡◌, ◌∙◌}
use Rattle.std.proofs.lemmas.Bool.Decides.{nat_tests}
use Rattle.std.proofs.lemmas.Int.{to_z-of_z}
use mir.Syntax.{w64}
use mir.Val.{SFits}
use Rattle.docsets.specs.Entries.{from, most_positions}
use Rattle.definitions.specs.Answers.{answers}
use Rattle.definitions.specs.Query.{phrase}
use Rattle.definitions.specs.Scoring.{Similarity, natural}
use Rattle.docsets.specs.ScoredEntries.{greatest_score}
use Rattle.leaf_weights.proofs.WholeTerms.{one-bounded, one-few, one-none, one-whole, one-within, several-none, several-whole}
use Rattle.leaf_weights.specs.PhraseWeights.{slop_of, terms_of}
use Rattle.leaf_weights.specs.PlacedAnswers.{placed_answers, whole_weight}
use Rattle.intersections.specs.Meetings.{meeting}
use Rattle.phrases.specs.PhraseEntries.{phrased, placed}
use Rattle.phrases.specs.PhraseScores.{phrase_score_by}
use Rattle.phrases.specs.PrefixEntries.{one_term}
use Rattle.segment_postings.specs.Cursors.{entries_left}
use Rattle.segment_postings.specs.CursorsLaws.{single_left}
use Rattle.segment_reader.specs.SegmentReaders.{max_doc_of}
use Rattle.leaf_weights.proofs.whole_phrase.whole_phrase.Goals as goal

-- no score is asked of what isn't there
abbrev none_asked : Similarity
none_asked = record { weight = λ t. 0; norms = [] }

pub returns-in_default-clause-none : goal.returns-in_default-clause-none
returns-in_default-clause-none c schema analyze docs stands =
    let is = c.if-terms-eq1.true in
    one-none schema analyze docs c.args.terms.now c.index-terms-0.result (grind (arith, nat_tests, is)) none_asked (c.in_default.ensures.none schema analyze docs stands)

pub returns-then-terms-eq1-clause-places : goal.returns-then-terms-eq1-clause-places
returns-then-terms-eq1-clause-places c schema analyze sim docs stands weighs norms =
    let is = c.if-terms-eq1.true in
    let fits : SFits w64 c.args.boost = search rules in
    let back : natural (to_z w64 (of_z w64 c.args.boost)) ≡ natural c.args.boost = ap natural (to_z-of_z w64 c.args.boost fits) in
    c.in_ok-one.ensures
    ∙ ap (λ b. one_term b (entries_left c.in-Some.postings)) back
    ∙ ap (one_term (natural c.args.boost)) (c.in-Some.ensures.some schema analyze docs stands)
    ∙ one-whole schema analyze docs c.args.terms.now c.index-terms-0.result (grind (arith, nat_tests, is)) sim (natural c.args.boost)

pub returns-then-terms-eq1-clause-within : goal.returns-then-terms-eq1-clause-within
returns-then-terms-eq1-clause-within c = ap (from (max_doc_of c.args.reader.now)) c.in_ok-one.ensures ∙ one-within (natural (to_z w64 (of_z w64 c.args.boost))) (max_doc_of c.args.reader.now) (entries_left c.in-Some.postings) c.in-Some.ensures.within

pub returns-then-terms-eq1-clause-bounded : goal.returns-then-terms-eq1-clause-bounded
returns-then-terms-eq1-clause-bounded c =
    let is = c.if-terms-eq1.true in
    let test : (length c.args.terms.now == 1) ≡ true = grind (arith, nat_tests, is) in
    let alone : natural c.args.boost * whole_weight c.args.terms.now c.args.weight ≡ natural c.args.boost * 1 = ap (λ t. natural c.args.boost * (if t then 1 else c.args.weight)) test in
    let same = ap greatest_score c.in_ok-one.ensures in
    let fits : SFits w64 c.args.boost = search rules in
    let back : natural (to_z w64 (of_z w64 c.args.boost)) ≡ natural c.args.boost = ap natural (to_z-of_z w64 c.args.boost fits) in
    let least = one-bounded (natural (to_z w64 (of_z w64 c.args.boost))) (entries_left c.in-Some.postings) in
    omega (arith, alone, same, least, back)

pub returns-then-terms-eq1-clause-few_places : goal.returns-then-terms-eq1-clause-few_places
returns-then-terms-eq1-clause-few_places c =
    let same = ap most_positions c.in_ok-one.ensures in
    let few = one-few (natural (to_z w64 (of_z w64 c.args.boost))) (entries_left c.in-Some.postings) (single_left c.in-Some.postings) in
    omega (arith, same, few)

pub returns-in_default-2-clause-none : goal.returns-in_default-2-clause-none
returns-in_default-2-clause-none c schema analyze docs stands =
    let none = subst (λ o. IfNone o (answers schema analyze none_asked (natural (to_z w64 (of_z w64 c.args.boost))) (phrase (terms_of c.new-phrase.result) (slop_of c.new-phrase.result)) docs ≡ [])) c.in_default-2.is (c.in_ok-several.ensures.none schema analyze none_asked docs stands) in
    several-none schema analyze none_asked (natural (to_z w64 (of_z w64 c.args.boost))) c.args.terms.now docs
    (sym (ap (λ ts. answers schema analyze none_asked (natural (to_z w64 (of_z w64 c.args.boost))) (phrase ts (slop_of c.new-phrase.result)) docs) c.new-phrase.ensures.terms ∙ ap (λ n. answers schema analyze none_asked (natural (to_z w64 (of_z w64 c.args.boost))) (phrase c.args.terms.now n) docs) c.new-phrase.ensures.slop) ∙ none)

pub returns-clause-places : goal.returns-clause-places
returns-clause-places c schema analyze sim docs stands weighs norms =
    let is = c.if-terms-eq1.false in
    let test : (length c.args.terms.now == 1) ≡ false = grind (arith, nat_tests, is) in
    let fits : SFits w64 c.args.boost = search rules in
    let back : natural (to_z w64 (of_z w64 c.args.boost)) ≡ natural c.args.boost = ap natural (to_z-of_z w64 c.args.boost fits) in
    let there = subst (λ o. IfSome o (λ several. phrased (phrase_score_by several.similarity_weight_opt several.fieldnorm_reader) several.finder.slop (meeting (map (λ t. placed t.offset (entries_left t.postings)) several.intersection_docset.docsets.items)) ≡ placed_answers schema analyze sim (natural (to_z w64 (of_z w64 c.args.boost))) (terms_of c.new-phrase.result) (slop_of c.new-phrase.result) docs)) c.in-Some-2.is (c.in_ok-several.ensures.places schema analyze sim docs stands (c.new-phrase.ensures.scores sim weighs norms)) in
    there
    ∙ ap (λ b. placed_answers schema analyze sim b (terms_of c.new-phrase.result) (slop_of c.new-phrase.result) docs) back
    ∙ ap (λ ts. placed_answers schema analyze sim (natural c.args.boost) ts (slop_of c.new-phrase.result) docs) c.new-phrase.ensures.terms
    ∙ ap (λ n. placed_answers schema analyze sim (natural c.args.boost) c.args.terms.now n docs) c.new-phrase.ensures.slop
    ∙ several-whole schema analyze sim (natural c.args.boost) docs c.args.terms.now test
