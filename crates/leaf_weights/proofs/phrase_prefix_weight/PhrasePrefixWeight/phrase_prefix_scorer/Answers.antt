use Rattle.std.proofs.Common.{IfNone, ap, arith, length, map, of_z, rules, subst, sym, take, to_z, ◌*◌, ◌-◌, ◌≡◌, ◌∙◌}
use Rattle.std.proofs.lemmas.Int.{to_z-of_z}
use Rattle.std.specs.List.{AllByRecursion}
use mir.Syntax.{w64}
use mir.Val.{SFits}
use Rattle.docsets.specs.Entries.{from}
use Rattle.definitions.specs.Phrases.{phrase_count}
use Rattle.definitions.specs.Scoring.{natural, weight_sum}
use Rattle.leaf_weights.proofs.PrefixWeighed.{bounded-on, greatest_get, greatest_taken, prefix_none, prefix_some, some_is, sorted_whole, whole_is}
use Rattle.leaf_weights.proofs.PrefixWhole.{prefixed-within}
use Rattle.leaf_weights.specs.PlacedAnswers.{whole_answers, whole_weight}
use Rattle.segment_postings.specs.Cursors.{entries_left}
use Rattle.segment_reader.specs.SegmentReaders.{max_doc_of}
use Rattle.leaf_weights.proofs.TermsFound.{contents_of}
use Rattle.terms.specs.Kinds.{kind_of}
use Rattle.leaf_weights.proofs.phrase_prefix_weight.PhrasePrefixWeight.phrase_prefix_scorer.Goals as goal

pub whole_phrase-requires-clause-sorted : goal.whole_phrase-requires-clause-sorted
whole_phrase-requires-clause-sorted c = sorted_whole c.args.self.now.terms.now c.args.self.now.several c.args.self.now.sorted

pub whole_phrase-requires-clause-near : goal.whole_phrase-requires-clause-near
whole_phrase-requires-clause-near c =
    let less = greatest_taken (length c.args.self.now.terms.now - 1) c.args.self.now.terms.now in
    let near = c.args.self.now.near in
    omega (arith, less, near)

pub whole_phrase-requires-clause-fits : goal.whole_phrase-requires-clause-fits
whole_phrase-requires-clause-fits c =
    let fits : SFits w64 c.args.boost = search rules in
    let back : natural (to_z w64 (of_z w64 c.args.boost)) ≡ natural c.args.boost = ap natural (to_z-of_z w64 c.args.boost fits) in
    let same = ap (λ k. k * whole_weight (take (length c.args.self.now.terms.now - 1) c.args.self.now.terms.now) c.args.self.now.weight) back ∙ ap (λ ts. natural c.args.boost * whole_weight ts c.args.self.now.weight) (sym (whole_is c.args.self.now.terms.now c.args.self.now.several c.args.self.now.sorted)) in
    let asked = c.requires.fits in
    omega (arith, same, asked)

pub returns-in_default-clause-none : goal.returns-in_default-clause-none
returns-in_default-clause-none c schema analyze sim docs stands =
    prefix_none c.args.self.now.terms.now c.args.self.now.several c.args.self.now.sorted schema analyze sim (natural c.args.boost) c.args.self.now.max_expansions docs
    (subst (λ o. IfNone o (AllByRecursion (λ doc. phrase_count schema analyze (take (length c.args.self.now.terms.now - 1) c.args.self.now.terms.now) 0 doc ≡ 0) docs)) c.in_default.is (c.in_ok-phrase.ensures.none schema analyze docs stands))

pub overflow_cast-moved : goal.overflow_cast-moved
overflow_cast-moved c =
    let most = greatest_get c.args.self.now.terms.now (length c.args.self.now.terms.now - 1) c.index-terms-last-2.result (let several = c.args.self.now.several in omega (arith, several)) in
    let near = c.args.self.now.near in
    let is = c.saturating_sub-moved.ensures in
    omega (arith, most, near, is)

pub returns-clause-some : goal.returns-clause-some
returns-clause-some c schema analyze sim docs stands scores searched few =
    let fits : SFits w64 c.args.boost = search rules in
    let back : natural (to_z w64 (of_z w64 c.args.boost)) ≡ natural c.args.boost = ap natural (to_z-of_z w64 c.args.boost fits) in
    let weighs = ap (λ ts. weight_sum sim.weight ts) (sym (whole_is c.args.self.now.terms.now c.args.self.now.several c.args.self.now.sorted)) ∙ scores.weight_is in
    let there = some_is _ c.in_ok-phrase.field-0 c.in-Some.phrase c.in-Some.is (c.in_ok-phrase.ensures.places schema analyze sim docs stands weighs scores.norms_are) in
    let same = c.field-field.ensures in
    let small = c.field-field.type_inv in
    prefix_some c.args.self.now.terms.now c.args.self.now.several c.args.self.now.sorted schema analyze sim (natural c.args.boost) c.args.self.now.max_expansions docs c.args.reader.now stands c.index-terms-last.result c.index-terms-last-2.result c.index-terms-last-3.result (kind_of c.typ-type.result) c.saturating_sub-moved.result (map entries_left c.in_ok-suffixes.suffixes.items) _ _ c.typ-type.ensures.parts (omega (arith, same, small)) searched few (c.in_ok-suffixes.ensures.found (contents_of schema analyze docs c.args.reader.now stands)) c.saturating_sub-moved.ensures (there ∙ ap (λ b. whole_answers schema analyze sim b (take (length c.args.self.now.terms.now - 1) c.args.self.now.terms.now) docs) back) c.in_ok-scorer.ensures

pub returns-clause-within : goal.returns-clause-within
returns-clause-within c =
    let there = some_is _ c.in_ok-phrase.field-0 c.in-Some.phrase c.in-Some.is c.in_ok-phrase.ensures.within in
    ap (from (max_doc_of c.args.reader.now)) c.in_ok-scorer.ensures ∙ prefixed-within c.saturating_sub-moved.result (max_doc_of c.args.reader.now) (map entries_left c.in_ok-suffixes.suffixes.items) _ there

pub returns-clause-bounded : goal.returns-clause-bounded
returns-clause-bounded c =
    let fits : SFits w64 c.args.boost = search rules in
    let back : natural (to_z w64 (of_z w64 c.args.boost)) ≡ natural c.args.boost = ap natural (to_z-of_z w64 c.args.boost fits) in
    let there = some_is _ c.in_ok-phrase.field-0 c.in-Some.phrase c.in-Some.is c.in_ok-phrase.ensures.bounded in
    let same = ap (λ k. k * whole_weight (take (length c.args.self.now.terms.now - 1) c.args.self.now.terms.now) c.args.self.now.weight) back ∙ ap (λ ts. natural c.args.boost * whole_weight ts c.args.self.now.weight) (sym (whole_is c.args.self.now.terms.now c.args.self.now.several c.args.self.now.sorted)) in
    bounded-on _ _ c.saturating_sub-moved.result (map entries_left c.in_ok-suffixes.suffixes.items) _ _ c.in_ok-scorer.ensures there same
