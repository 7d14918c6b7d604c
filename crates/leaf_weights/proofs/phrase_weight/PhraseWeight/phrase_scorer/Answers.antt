use Rattle.std.proofs.Common.{[], IfNone, IfSome, ap, arith, map, of_z, refl, rules, subst, sym, to_z, ◌*◌, ◌≡◌, ◌∙◌, slice_index}
use Rattle.std.proofs.lemmas.Int.{to_z-of_z, to_z_pos}
use Rattle.std.specs.List.{AllByRecursion}
use mir.Syntax.{w64}
use mir.Val.{SFits}
use Rattle.docsets.specs.Entries.{from}
use Rattle.definitions.specs.Postings.{postings}
use Rattle.definitions.specs.Scoring.{length_id, natural}
use Rattle.docsets.specs.ScoredEntries.{greatest_score, pairs_of}
use Rattle.leaf_weights.proofs.PhraseEntriesRead.{as-many, few-places, first-field, phrase-bounded, phrase-within}
use Rattle.leaf_weights.proofs.PhraseScores.{missing-answers, scores-answer, scores-placed}
use Rattle.leaf_weights.specs.ReadTerms.{HasMissing, placed_entries, placed_left}
use Rattle.phrases.specs.PhraseEntries.{adjusted_terms, phrased}
use Rattle.phrases.specs.PhraseScores.{phrase_score_by}
use Rattle.segment_postings.specs.Cursors.{entries_left}
use Rattle.segment_reader.specs.SegmentReaders.{max_doc_of}
use Rattle.term_scorer.specs.Similarities.{similarity_data}
use Rattle.term_scorer.specs.TermScoreLaws.{score-below}
use Rattle.term_scorer.specs.TermScores.{TermSimilarity, score_by}
use Rattle.leaf_weights.proofs.TermsFound.{weighed}
use Rattle.segment_reader.specs.LengthIds.{AreIds}
use Rattle.leaf_weights.proofs.phrase_weight.PhraseWeight.phrase_scorer.Goals as goal

pub returns-in_default-clause-none : goal.returns-in_default-clause-none
returns-in_default-clause-none c schema analyze sim docs stands =
    missing-answers schema analyze sim (natural c.args.boost) c.args.self.now.terms.now c.args.self.now.slop c.args.self.now.sorted docs
    (subst (λ o. IfNone o (HasMissing (λ t. postings schema analyze t docs) c.args.self.now.terms.now)) c.in_default.is (c.in_ok-term_postings.ensures.none schema analyze docs stands))

pub new-requires-clause-several : goal.new-requires-clause-several
new-requires-clause-several c =
    let offsets = subst (λ o. IfSome o (λ read. map (λ t. t.0) read.items ≡ map (λ t. t.0) c.args.self.now.terms.now)) c.in-Some.is c.in_ok-term_postings.ensures.offsets in
    let long = as-many c.in-Some.term_postings.items c.args.self.now.terms.now offsets in
    let several = c.args.self.now.several in
    omega (arith, long, several)

pub new-requires-clause-covered : goal.new-requires-clause-covered
new-requires-clause-covered c =
    let within = subst (λ o. IfSome o (λ read. AllByRecursion (λ t. from (max_doc_of c.args.reader.now) (entries_left t.1) ≡ []) read.items)) c.in-Some.is c.in_ok-term_postings.ensures.within in
    subst (λ n. AllByRecursion (λ t. from n (entries_left t.1) ≡ []) c.in-Some.term_postings.items) (sym c.lengths_of_field-lengths.ensures.each) within

pub returns-clause-some : goal.returns-clause-some
returns-clause-some c schema analyze sim docs stands scores =
    let small = c.args.self.now.small in
    let weight : natural (to_z w64 c.args.self.now.weight) ≡ _ = ap natural (to_z_pos w64 c.args.self.now.weight (omega (arith, small))) ∙ sym scores.weight_is in
    let fits : SFits w64 c.args.boost = search rules in
    let boost : natural (to_z w64 (of_z w64 c.args.boost)) ≡ natural c.args.boost = ap natural (to_z-of_z w64 c.args.boost fits) in
    let read = subst (λ o. IfSome o (λ read. placed_left read.items ≡ placed_entries (λ t. postings schema analyze t docs) c.args.self.now.terms.now)) c.in-Some.is (c.in_ok-term_postings.ensures.some schema analyze docs stands) in
    let several = c.args.self.now.several in
    let many = stands.many in
    let few = c.args.reader.now.few in
    let field = c.field.ensures ∙ first-field c.args.self.now.terms.now c.index-self-0.result (omega (arith, several)) in
    ap pairs_of c.in_ok-scorer.ensures
    ∙ ap (λ ts. pairs_of (phrased (λ doc count. score_by (similarity_data c.new-similarity.result) (slice_index c.lengths_of_field-lengths.result doc) count) c.args.self.now.slop (adjusted_terms ts))) read
    ∙ scores-answer schema analyze sim (natural c.args.boost) c.args.self.now.terms.now c.args.self.now.slop c.args.self.now.sorted (similarity_data c.new-similarity.result) c.lengths_of_field-lengths.result docs (omega (arith, several)) (omega (arith, many, few)) (c.new-similarity.ensures ∙ weighed _ _ _ _ _ _ weight boost (sym scores.norms_are)) (subst (λ f. AreIds (length_id schema analyze f) docs c.lengths_of_field-lengths.result) field (c.lengths_of_field-lengths.ensures.ids schema analyze docs stands))

pub returns-clause-places : goal.returns-clause-places
returns-clause-places c schema analyze sim docs stands scores =
    let small = c.args.self.now.small in
    let weight : natural (to_z w64 c.args.self.now.weight) ≡ _ = ap natural (to_z_pos w64 c.args.self.now.weight (omega (arith, small))) ∙ sym scores.weight_is in
    let fits : SFits w64 c.args.boost = search rules in
    let boost : natural (to_z w64 (of_z w64 c.args.boost)) ≡ natural c.args.boost = ap natural (to_z-of_z w64 c.args.boost fits) in
    let read = subst (λ o. IfSome o (λ read. placed_left read.items ≡ placed_entries (λ t. postings schema analyze t docs) c.args.self.now.terms.now)) c.in-Some.is (c.in_ok-term_postings.ensures.some schema analyze docs stands) in
    let several = c.args.self.now.several in
    let many = stands.many in
    let few = c.args.reader.now.few in
    let field = c.field.ensures ∙ first-field c.args.self.now.terms.now c.index-self-0.result (omega (arith, several)) in
    c.in_ok-scorer.ensures
    ∙ ap (λ ts. phrased (λ doc count. score_by (similarity_data c.new-similarity.result) (slice_index c.lengths_of_field-lengths.result doc) count) c.args.self.now.slop (adjusted_terms ts)) read
    ∙ scores-placed schema analyze sim (natural c.args.boost) c.args.self.now.terms.now c.args.self.now.slop c.args.self.now.sorted (similarity_data c.new-similarity.result) c.lengths_of_field-lengths.result docs (omega (arith, several)) (omega (arith, many, few)) (c.new-similarity.ensures ∙ weighed _ _ _ _ _ _ weight boost (sym scores.norms_are)) (subst (λ f. AreIds (length_id schema analyze f) docs c.lengths_of_field-lengths.result) field (c.lengths_of_field-lengths.ensures.ids schema analyze docs stands))

pub returns-clause-within : goal.returns-clause-within
returns-clause-within c =
    let several = c.args.self.now.several in
    let offsets = subst (λ o. IfSome o (λ read. map (λ t. t.0) read.items ≡ map (λ t. t.0) c.args.self.now.terms.now)) c.in-Some.is c.in_ok-term_postings.ensures.offsets in
    let long = as-many c.in-Some.term_postings.items c.args.self.now.terms.now offsets in
    let within = subst (λ o. IfSome o (λ read. AllByRecursion (λ t. from (max_doc_of c.args.reader.now) (entries_left t.1) ≡ []) read.items)) c.in-Some.is c.in_ok-term_postings.ensures.within in
    ap (from (max_doc_of c.args.reader.now)) c.in_ok-scorer.ensures ∙ phrase-within (λ doc count. score_by (similarity_data c.new-similarity.result) (slice_index c.lengths_of_field-lengths.result doc) count) c.args.self.now.slop (max_doc_of c.args.reader.now) c.in-Some.term_postings.items (omega (arith, several, long)) within

pub returns-clause-bounded : goal.returns-clause-bounded
returns-clause-bounded c =
    let is = ap greatest_score c.in_ok-scorer.ensures in
    let small = c.args.self.now.small in
    let weight : natural (to_z w64 c.args.self.now.weight) ≡ c.args.self.now.weight = ap natural (to_z_pos w64 c.args.self.now.weight (omega (arith, small))) in
    let fits : SFits w64 c.args.boost = search rules in
    let boost : natural (to_z w64 (of_z w64 c.args.boost)) ≡ natural c.args.boost = ap natural (to_z-of_z w64 c.args.boost fits) in
    let most : (similarity_data c.new-similarity.result).boost * (similarity_data c.new-similarity.result).weight ≡ natural c.args.boost * c.args.self.now.weight = ap (λ (s : TermSimilarity). s.boost * s.weight) (c.new-similarity.ensures ∙ weighed _ _ _ _ _ _ weight boost refl) in
    let least = phrase-bounded (λ doc count. score_by (similarity_data c.new-similarity.result) (slice_index c.lengths_of_field-lengths.result doc) count) c.args.self.now.slop ((similarity_data c.new-similarity.result).boost * (similarity_data c.new-similarity.result).weight) (adjusted_terms (placed_left c.in-Some.term_postings.items)) (λ doc count. score-below (similarity_data c.new-similarity.result) (slice_index c.lengths_of_field-lengths.result doc) count) in
    omega (arith, is, least, most)

pub returns-clause-few_places : goal.returns-clause-few_places
returns-clause-few_places c = few-places (phrase_score_by c.in_ok-scorer.scorer.similarity_weight_opt c.in_ok-scorer.scorer.fieldnorm_reader) c.in_ok-scorer.scorer.finder.slop _ c.in_ok-scorer.scorer.standing.columns
