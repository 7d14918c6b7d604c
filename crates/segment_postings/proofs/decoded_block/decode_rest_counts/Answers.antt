use Rattle.std.proofs.Common.{ap, arith, false, get_or, length, subst, sym, take, true, ◌<◌, ◌∙◌, ◌≡◌, ◌^◌, ℕ, rules}
use Rattle.std.proofs.lemmas.List.{take-replicate}
use Rattle.codes.proofs.VintListLaws.{numbers_stood}
use Rattle.segment_postings.proofs.BlockLists.{counts_found}
use Rattle.segment_postings.specs.Reading.{rest_counts}
use Rattle.segment_postings.proofs.decoded_block.decode_rest_counts.Goals.{After-output_array}
use Rattle.segment_postings.proofs.decoded_block.decode_rest_counts.Goals as goal
use Rattle.segment_postings.specs.Blocks.{more_1}

pub returns-then-not-reads_counts : goal.returns-then-not-reads_counts
returns-then-not-reads_counts c =
    let no : c.args.reads_counts ≡ false = search rules in
    let few = c.requires.few in
    ap (take c.args.num_docs) c.fill.ensures ∙ (take-replicate c.args.num_docs 128 1 (omega (arith, few)) ∙ ap (λ r. rest_counts r c.args.num_docs c.args.bytes.now) (sym no))

decoded : (c : After-output_array) → more_1 c.output_array.result.now ≡ rest_counts c.args.reads_counts c.args.num_docs c.args.bytes.now
decoded c =
    let yes : c.args.reads_counts ≡ true = search rules in
    let taken = c.output_array.ensures ∙ ap (λ k. take k c.uncompress_vint_unsorted.new.self.output) c.uncompress_vint_unsorted.ensures.filled in
    ap more_1 taken ∙ (sym (counts_found c.args.num_docs c.args.bytes.now _ _ c.uncompress_vint_unsorted.ensures.numbers) ∙ ap (λ r. rest_counts r c.args.num_docs c.args.bytes.now) (sym yes))

pub add_1-requires-clause-fit : goal.add_1-requires-clause-fit
add_1-requires-clause-fit c = subst (λ xs. (i : ℕ) → get_or xs i 0 < 2 ^ 32) (sym (decoded (goal.at.add_1-requires-clause-fit c).After-output_array)) c.requires.fit

pub returns : goal.returns
returns c =
    let taken = c.output_array.ensures ∙ ap (λ k. take k c.uncompress_vint_unsorted.new.self.output) c.uncompress_vint_unsorted.ensures.filled in
    let stood = numbers_stood c.args.num_docs c.args.bytes.now _ _ (λ i. omega (arith, c.type_inv.bytes i)) c.uncompress_vint_unsorted.ensures.numbers in
    let count : length c.output_array.result.now ≡ c.args.num_docs = ap length taken ∙ stood.0 in
    ap (λ k. take k c.add_1.new.counts) (sym count) ∙ (c.add_1.ensures ∙ decoded (goal.at.returns c).After-output_array)
