use Rattle.std.proofs.Common.{List, ap, arith, drop, get_or, length, subst, sym, take, ◌-◌, ◌<◌, ◌∙◌, ◌^◌, ℕ}
use Rattle.std.proofs.lemmas.List.{take_rest}
use Rattle.segment_postings.proofs.HeldBlocks.{Full, few_counts, full_readable, held_full, held_rest, rest_readable}
use Rattle.segment_postings.specs.Reading.{IsHeld, block_counts, counts_in, docs_in, rest_counts}
use Rattle.segment_postings.proofs.decoded_block.decode_block.Goals.{In-BitPacked}
use Rattle.segment_postings.proofs.decoded_block.decode_block.Goals as goal

full : (c : In-BitPacked) → Full c.args.reads_counts c.args.before c.in-BitPacked.doc_num_bits c.in-BitPacked.tf_num_bits (take (length c.args.bytes.now - c.byte_offset.result) (drop c.byte_offset.result c.args.bytes.now))
full c =
    let block_is = take_rest c.args.bytes.now c.byte_offset.result ∙ ap (λ k. drop k c.args.bytes.now) c.byte_offset.ensures in
    let P : List ℕ → Type 0 = λ xs. Full c.args.reads_counts c.args.before c.in-BitPacked.doc_num_bits c.in-BitPacked.tf_num_bits xs in
    subst P (sym block_is) (full_readable c.args.reads_counts c.requires.0 c.args.before c.args.skips.now.left c.args.skips.now.rest (drop c.args.skips.now.byte_offset c.args.bytes.now) _ _ _ _ _ c.requires.1.readable (sym c.block_info.ensures ∙ c.in-BitPacked.is))

pub decode_docs-consumed-requires-clause-small : goal.decode_docs-consumed-requires-clause-small
decode_docs-consumed-requires-clause-small c = (full (goal.at.decode_docs-consumed-requires-clause-small c).In-BitPacked).small

pub decode_counts-requires-clause-fit : goal.decode_counts-requires-clause-fit
decode_counts-requires-clause-fit c =
    let block = take (length c.args.bytes.now - c.byte_offset.result) (drop c.byte_offset.result c.args.bytes.now) in
    let behind = take_rest block c.decode_docs-consumed.result ∙ ap (λ k. drop k block) c.decode_docs-consumed.ensures.consumed in
    let P : List ℕ → Type 0 = λ xs. (i : ℕ) → get_or (block_counts c.args.reads_counts c.in-BitPacked.tf_num_bits xs) i 0 < 2 ^ 32 in
    subst P (sym behind) (full (goal.at.decode_counts-requires-clause-fit c).In-BitPacked).counts_fit

pub returns-in-BitPacked : goal.returns-in-BitPacked
returns-in-BitPacked c =
    let block = take (length c.args.bytes.now - c.byte_offset.result) (drop c.byte_offset.result c.args.bytes.now) in
    let block_is = take_rest c.args.bytes.now c.byte_offset.result ∙ ap (λ k. drop k c.args.bytes.now) c.byte_offset.ensures in
    let behind = take_rest block c.decode_docs-consumed.result ∙ ap (λ k. drop k block) c.decode_docs-consumed.ensures.consumed in
    let counts_are = c.decode_counts.ensures ∙ ap (λ xs. block_counts c.args.reads_counts c.in-BitPacked.tf_num_bits xs) behind in
    let P : List ℕ → Type 0 = λ xs. IsHeld c.decode_docs-consumed.new.docs c.decode_counts.new.counts 128 (docs_in c.args.before c.args.skips.now.left c.args.skips.now.rest xs) (counts_in c.args.reads_counts c.args.before c.args.skips.now.left c.args.skips.now.rest xs) in
    subst P block_is (held_full c.args.reads_counts c.args.before c.args.skips.now.left c.args.skips.now.rest block c.decode_docs-consumed.new.docs c.decode_counts.new.counts _ _ _ _ _ (sym c.block_info.ensures ∙ c.in-BitPacked.is) c.decode_docs-consumed.ensures.docs counts_are)

pub returns-in-VInt : goal.returns-in-VInt
returns-in-VInt c =
    let block = take (length c.args.bytes.now - c.byte_offset.result) (drop c.byte_offset.result c.args.bytes.now) in
    let block_is = take_rest c.args.bytes.now c.byte_offset.result ∙ ap (λ k. drop k c.args.bytes.now) c.byte_offset.ensures in
    let behind = take_rest block c.decode_rest_docs-consumed.result ∙ sym c.decode_rest_docs-consumed.ensures.behind in
    let counts_are = c.decode_rest_counts.ensures ∙ ap (λ xs. rest_counts c.args.reads_counts c.in-VInt.num_docs xs) behind in
    let rest = rest_readable c.args.reads_counts c.requires.0 c.args.before c.args.skips.now.left c.args.skips.now.rest (drop c.args.skips.now.byte_offset c.args.bytes.now) c.in-VInt.num_docs c.requires.1.readable (sym c.block_info.ensures ∙ c.in-VInt.is) in
    let few = rest.few in
    let long = ap length counts_are in
    let P : List ℕ → Type 0 = λ xs. IsHeld c.decode_rest_docs-consumed.new.docs c.decode_rest_counts.new.counts c.in-VInt.num_docs (docs_in c.args.before c.args.skips.now.left c.args.skips.now.rest xs) (counts_in c.args.reads_counts c.args.before c.args.skips.now.left c.args.skips.now.rest xs) in
    subst P block_is (held_rest c.args.reads_counts c.args.before c.args.skips.now.left c.args.skips.now.rest block c.decode_rest_docs-consumed.new.docs c.decode_rest_counts.new.counts c.in-VInt.num_docs (sym c.block_info.ensures ∙ c.in-VInt.is) few c.decode_rest_docs-consumed.ensures.docs c.decode_rest_docs-consumed.ensures.count counts_are (few_counts c.in-VInt.num_docs c.decode_rest_counts.new.counts _ counts_are (omega (arith, few))))
