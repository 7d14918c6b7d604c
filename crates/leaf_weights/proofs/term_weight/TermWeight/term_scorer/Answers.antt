use Rattle.std.proofs.Common.{ap, arith, length, map, of_z, refl, rules, subst, sym, to_z, ◌*◌, ◌≡◌, ◌∙◌}
use Rattle.std.proofs.lemmas.Int.{to_z-of_z, to_z_pos}
use mir.Syntax.{w64}
use mir.Val.{SFits}
use Rattle.docsets.specs.Entries.{from}
use Rattle.definitions.specs.Scoring.{length_id, natural}
use Rattle.docsets.specs.ScoredEntries.{greatest_score, pairs_of}
use Rattle.definitions.specs.Terms.{field_of}
use Rattle.layouts.specs.TermPostings.{bound_in}
use Rattle.segment_postings.specs.Cursors.{counts_left, cursor_blocks, cursor_blocks_decoded, cursor_place, docs_left, entries_left, skips_left}
use Rattle.segment_reader.specs.SegmentReaders.{max_doc_of}
use Rattle.term_scorer.specs.Similarities.{similarity_data}
use Rattle.segment_reader.specs.LengthIds.{AreIds}
use Rattle.term_scorer.proofs.TermScoreLaws.{greatest-below}
use Rattle.leaf_weights.specs.TermWeights.{option_asked, term_of}
use Rattle.leaf_weights.proofs.BoundsFound.{bounds_found, full_bounds_found}
use Rattle.leaf_weights.proofs.TermsFound.{if_none, length-scored, none_found, scored_found, scored_within, weighed}
use Rattle.segment_reader.proofs.FieldLengths.{all_within}
use Rattle.leaf_weights.proofs.term_weight.TermWeight.term_scorer.Goals as goal

pub returns-in_err-postings-clause-none : goal.returns-in_err-postings-clause-none
returns-in_err-postings-clause-none c schema analyze sim docs stands =
    if_none c.from_residual.result (none_found schema analyze docs c.args.reader.now stands sim (natural c.args.boost) (term_of c.args.self.now) (option_asked c.args.self.now) c.inverted_index-index.result.now c.inverted_index-index.ensures c.in_err-postings.ensures.none)

pub new-requires-clause-covered : goal.new-requires-clause-covered
new-requires-clause-covered c = all_within c.args.reader.now c.inverted_index-index.result.now _ (entries_left c.in_ok-postings.postings) c.inverted_index-index.ensures c.lengths_of_field.ensures.each (λ contents. (c.in_ok-postings.ensures.some contents).within)

pub new-requires-clause-bounded : goal.new-requires-clause-bounded
new-requires-clause-bounded c =
    let blocks = cursor_blocks c.in_ok-postings.postings in
    bounds_found c.args.reader.now c.inverted_index-index.result.now c.field.result (field_of (term_of c.args.self.now)) c.lengths_of_field.result (skips_left blocks) (docs_left blocks) (counts_left blocks) c.inverted_index-index.ensures c.field.ensures c.lengths_of_field.ensures.kept (λ contents. (c.in_ok-postings.ensures.some contents).bounded)

pub returns-clause-some : goal.returns-clause-some
returns-clause-some c schema analyze sim docs stands scores =
    let small = c.args.self.now.small in
    let weight : natural (to_z w64 c.args.self.now.weight) ≡ sim.weight c.args.self.now.term.now = ap natural (to_z_pos w64 c.args.self.now.weight (omega (arith, small))) ∙ sym scores.weight_is in
    let fits : SFits w64 c.args.boost = search rules in
    let boost : natural (to_z w64 (of_z w64 c.args.boost)) ≡ natural c.args.boost = ap natural (to_z-of_z w64 c.args.boost fits) in
    ap pairs_of c.new.ensures.entries
    ∙ scored_found schema analyze docs c.args.reader.now stands sim (natural c.args.boost) (term_of c.args.self.now) (option_asked c.args.self.now) c.inverted_index-index.result.now (similarity_data c.new-similarity.result) c.lengths_of_field.result (entries_left c.in_ok-postings.postings) c.inverted_index-index.ensures (c.new-similarity.ensures ∙ weighed _ _ _ _ _ _ weight boost (sym scores.norms_are)) (subst (λ field. AreIds (length_id schema analyze field) docs c.lengths_of_field.result) c.field.ensures (c.lengths_of_field.ensures.ids schema analyze docs stands)) (λ contents. (c.in_ok-postings.ensures.some contents).entries)

pub returns-clause-present : goal.returns-clause-present
returns-clause-present c =
    let same = ap length c.new.ensures.entries in
    let long = length-scored (similarity_data c.new-similarity.result) c.lengths_of_field.result (entries_left c.in_ok-postings.postings) in
    let some = c.in_ok-postings.ensures.start.present in
    omega (arith, same, long, some)

pub returns-clause-within : goal.returns-clause-within
returns-clause-within c =
    let n = max_doc_of c.args.reader.now in
    let es = entries_left c.in_ok-postings.postings in
    ap (from n) c.new.ensures.entries
    ∙ scored_within n (similarity_data c.new-similarity.result) c.lengths_of_field.result es (all_within c.args.reader.now c.inverted_index-index.result.now n es c.inverted_index-index.ensures refl (λ contents. (c.in_ok-postings.ensures.some contents).within))

pub returns-clause-bounded : goal.returns-clause-bounded
returns-clause-bounded c =
    let small = c.args.self.now.small in
    let weight : natural (to_z w64 c.args.self.now.weight) ≡ c.args.self.now.weight = ap natural (to_z_pos w64 c.args.self.now.weight (omega (arith, small))) in
    let fits : SFits w64 c.args.boost = search rules in
    let boost : natural (to_z w64 (of_z w64 c.args.boost)) ≡ natural c.args.boost = ap natural (to_z-of_z w64 c.args.boost fits) in
    let product = ap (λ s. s.boost * s.weight) c.new-similarity.ensures ∙ (ap (λ b. b * natural (to_z w64 c.args.self.now.weight)) boost ∙ ap (λ w. natural c.args.boost * w) weight) in
    let same = ap greatest_score c.new.ensures.entries in
    let below = greatest-below (similarity_data c.new-similarity.result) c.lengths_of_field.result (entries_left c.in_ok-postings.postings) in
    omega (arith, same, below, product)

pub returns-clause-similarity : goal.returns-clause-similarity
returns-clause-similarity c sim scores =
    let small = c.args.self.now.small in
    let weight : natural (to_z w64 c.args.self.now.weight) ≡ sim.weight c.args.self.now.term.now = ap natural (to_z_pos w64 c.args.self.now.weight (omega (arith, small))) ∙ sym scores.weight_is in
    let fits : SFits w64 c.args.boost = search rules in
    let boost : natural (to_z w64 (of_z w64 c.args.boost)) ≡ natural c.args.boost = ap natural (to_z-of_z w64 c.args.boost fits) in
    c.new.ensures.similarity ∙ (c.new-similarity.ensures ∙ weighed _ _ _ _ _ _ weight boost (sym scores.norms_are))

pub returns-clause-opened : goal.returns-clause-opened
returns-clause-opened c = (ap cursor_blocks_decoded c.new.ensures.cursor ∙ c.in_ok-postings.ensures.start.decoded, ap cursor_place c.new.ensures.cursor ∙ c.in_ok-postings.ensures.start.place)

pub returns-clause-blocks : goal.returns-clause-blocks
returns-clause-blocks c schema analyze docs stands =
    ap (λ p. map bound_in (skips_left (cursor_blocks p))) c.new.ensures.cursor
    ∙ full_bounds_found schema analyze docs c.args.reader.now stands (term_of c.args.self.now) c.inverted_index-index.result.now (skips_left (cursor_blocks c.in_ok-postings.postings)) c.inverted_index-index.ensures c.in_ok-postings.ensures.bounds
