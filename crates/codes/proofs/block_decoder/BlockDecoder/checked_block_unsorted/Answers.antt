-- The block that was read is the only one, and takes another width.
use Rattle.std.proofs.Common.{List, get_or, refl, subst, ◌<◌, ◌^◌, ℕ}
use Rattle.codes.proofs.RefusedBlocks.{other_width}
use Rattle.layouts.specs.PackedBlocks.{IsLeastWidth}
use Rattle.codes.proofs.block_decoder.BlockDecoder.checked_block_unsorted.Goals as goal

pub returns-then-width_of-num_bits-clause-err : goal.returns-then-width_of-num_bits-clause-err
returns-then-width_of-num_bits-clause-err c =
    let H : List ℕ → Type 0 = λ xs. (i : ℕ) → get_or xs i 0 < 2 ^ c.width_of.result in
    let L : List ℕ → Type 0 = λ xs. IsLeastWidth c.width_of.result xs in
    (refl, λ numbers block. c.if-width_of-num_bits.true (other_width c.args.num_bits c.width_of.result _ numbers _ c.uncompress_block_unsorted-consumed.ensures.numbers (subst H c.output_array.ensures c.width_of.ensures.holds) (subst L c.output_array.ensures c.width_of.ensures.least) block))
