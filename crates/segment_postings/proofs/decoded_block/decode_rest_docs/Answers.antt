use Rattle.std.proofs.Common.{ap, arith, drop, length, length-take, sym, take, ◌++◌, ◌∙◌, ◌≡◌}
use Rattle.codes.proofs.VintListLaws.{documents_stood}
use Rattle.segment_postings.proofs.BlockLists.{docs_found, docs_padded}
use Rattle.segment_postings.specs.Reading.{rest_docs}
use Rattle.segment_postings.proofs.decoded_block.decode_rest_docs.Goals.{After-output_array}
use Rattle.segment_postings.proofs.decoded_block.decode_rest_docs.Goals as goal

taken : (c : After-output_array) → c.output_array.result.now ≡ take c.args.num_docs c.uncompress_vint_sorted-consumed.new.self.output
taken c = c.output_array.ensures ∙ ap (λ k. take k c.uncompress_vint_sorted-consumed.new.self.output) c.uncompress_vint_sorted-consumed.ensures.filled

counted : (c : After-output_array) → length c.output_array.result.now ≡ c.args.num_docs
counted c =
    let stood = documents_stood c.args.before c.args.num_docs c.args.bytes.now _ _ (λ i. omega (arith, c.type_inv.bytes i)) c.uncompress_vint_sorted-consumed.ensures.documents in
    ap length (taken c) ∙ stood.0

pub copy_from_slice-requires : goal.copy_from_slice-requires
copy_from_slice-requires c =
    let count = counted (goal.at.copy_from_slice-requires c).After-output_array in
    let long = c.fill.array_long in
    let few = c.requires.few in
    omega (arith, length-take c.args.num_docs c.fill.new.numbers, count, long, few)

pub returns-clause-docs : goal.returns-clause-docs
returns-clause-docs c =
    let here = (goal.at.returns-clause-docs c).After-output_array in
    let found = docs_found c.args.before c.args.num_docs c.args.bytes.now _ _ c.uncompress_vint_sorted-consumed.ensures.documents in
    ap (λ xs. xs ++ drop c.args.num_docs c.fill.new.numbers) (c.copy_from_slice.ensures.after ∙ (taken here ∙ sym found.0)) ∙ docs_padded c.args.num_docs c.fill.new.numbers (rest_docs c.args.before c.args.num_docs c.args.bytes.now) c.fill.ensures c.requires.few
