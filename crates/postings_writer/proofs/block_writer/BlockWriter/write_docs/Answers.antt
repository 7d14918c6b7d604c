use Rattle.std.proofs.Common.{[], ap, get_or, sym, ◌++◌, ◌∙◌, ◌∷◌}
use Rattle.codes.proofs.BlockBytes.{width_is}
use Rattle.definitions.specs.NumberCodes.{u32_bytes}
use Rattle.layouts.specs.Deltas.{deltas, next_of}
use Rattle.layouts.specs.PackedBytes.{packed_bytes, width_of}
use Rattle.postings_writer.proofs.WaitingBlocks.{changed}
use Rattle.postings_writer.proofs.block_writer.BlockWriter.write_docs.Goals as goal

pub returns : goal.returns
returns c =
    let numbers = deltas (next_of c.args.offset) c.args.docs.now in
    let block = c.compress_block_sorted.ensures.block in
    let width = sym (width_is c.compress_block_sorted.result.0 numbers block.width block.packed.small block.least) in
    let last = u32_bytes (get_or c.args.docs.now 127 0) in
    changed c.args.self.now c.self.inside.skip_write _ _ _
    (λ xs. xs ++ last ++ width_of numbers ∷ []) (λ xs. xs ++ packed_bytes numbers) c.self.view_is
    (c.in_ok-write_doc.ensures ∙ ap (λ w. c.self.inside.skip_write ++ last ++ w ∷ []) width)
    (c.in_ok-put_packed.ensures c.compress_block_sorted.result.0 numbers block)
