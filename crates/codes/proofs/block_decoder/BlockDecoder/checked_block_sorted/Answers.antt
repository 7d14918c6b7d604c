-- The deltas that were read are the only ones, and their sums decide.
use Rattle.std.proofs.Common.{List, get_or, refl, subst, ◌≤◌, ◌^◌, ℕ}
use Rattle.codes.proofs.RefusedBlocks.{past_documents, sorted_count, sorted_read}
use Rattle.layouts.specs.Deltas.{documents, next_of}
use Rattle.codes.proofs.block_decoder.BlockDecoder.checked_block_sorted.Goals as goal

pub returns-in_default-clause-err : goal.returns-in_default-clause-err
returns-in_default-clause-err c =
    let past = c.in_default.ensures.none in
    let read = c.in_ok-consumed.ensures.ok in
    let P : List ℕ → Type 0 = λ xs. 2 ^ 32 ≤ get_or (documents (next_of c.args.offset) xs) past.0 0 in
    (refl, λ docs block. past_documents c.args.offset c.args.num_bits past.0 _ docs _ read.1.packed (subst P c.output_array.ensures past.1) block)

pub returns-clause-ok : goal.returns-clause-ok
returns-clause-ok c =
    let read = c.in_ok-consumed.ensures.ok in
    let some = c.in-Some.ensures.some in
    (read.0, sorted_read c.args.offset c.args.num_bits c.checked_block_unsorted.new.self.output_len c.checked_block_unsorted.new.self.output c.output_array.result.now c.in-Some.docs _ c.output_array.ensures read.1 some.0 some.1)

pub returns-clause-count : goal.returns-clause-count
returns-clause-count c =
    let read = c.in_ok-consumed.ensures.ok in
    let some = c.in-Some.ensures.some in
    sorted_count c.args.offset c.args.num_bits _ _ (sorted_read c.args.offset c.args.num_bits c.checked_block_unsorted.new.self.output_len c.checked_block_unsorted.new.self.output c.output_array.result.now c.in-Some.docs _ c.output_array.ensures read.1 some.0 some.1)
