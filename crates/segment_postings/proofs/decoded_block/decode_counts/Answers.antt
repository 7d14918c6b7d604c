use Rattle.std.proofs.Common.{ap, arith, get_or, length, subst, sym, take, take_all, true, ◌*◌, ◌<◌, ◌∙◌, ◌≡◌, ◌^◌, ℕ, rules}
use Rattle.codes.proofs.UnpackedBlocks.{packed_is}
use Rattle.codes.proofs.BlockPackings.{digits-take}
use Rattle.segment_postings.specs.Reading.{block_counts}
use Rattle.segment_postings.proofs.decoded_block.decode_counts.Goals.{After-output_array}
use Rattle.segment_postings.proofs.decoded_block.decode_counts.Goals as goal
use Rattle.segment_postings.specs.Blocks.{more_1}

decoded : (c : After-output_array) → more_1 c.output_array.result.now ≡ block_counts c.args.reads_counts c.args.width c.args.bytes.now
decoded c =
    let yes : c.args.reads_counts ≡ true = search rules in
    let bytes = take (16 * c.args.width) c.args.bytes.now in
    let is = packed_is c.args.width _ bytes (digits-take 256 (16 * c.args.width) c.args.bytes.now (λ i. omega (arith, c.type_inv.bytes i))) c.uncompress_block_unsorted.ensures.numbers in
    ap more_1 (c.output_array.ensures ∙ is) ∙ ap (λ r. block_counts r c.args.width c.args.bytes.now) (sym yes)

pub add_1-requires-clause-fit : goal.add_1-requires-clause-fit
add_1-requires-clause-fit c = subst (λ xs. (i : ℕ) → get_or xs i 0 < 2 ^ 32) (sym (decoded (goal.at.add_1-requires-clause-fit c).After-output_array)) c.requires.fit

pub returns : goal.returns
returns c =
    let count : length c.output_array.result.now ≡ 128 = ap length c.output_array.ensures ∙ c.uncompress_block_unsorted.ensures.numbers.count in
    let long = c.add_1.array_long in
    sym (take_all (length c.output_array.result.now) c.add_1.new.counts (omega (arith, count, long))) ∙ (c.add_1.ensures ∙ decoded (goal.at.returns c).After-output_array)
