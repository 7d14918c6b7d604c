use Rattle.std.proofs.Common.{[], ap, Bool, subst, sym, true, ◌++◌, ◌≡◌, ◌∙◌, ◌∷◌, if◌then◌else◌}
use Rattle.codes.proofs.BlockBytes.{width_is}
use Rattle.definitions.specs.Schema.{has_freq}
use Rattle.layouts.specs.PackedBytes.{packed_bytes, width_of}
use Rattle.options.specs.RecordOption.{record_option_of}
use Rattle.postings_writer.proofs.WaitingBlocks.{changed}
use Rattle.postings_writer.specs.TermWriting.{Blocks}
use Rattle.postings_writer.proofs.block_writer.BlockWriter.write_term_freqs.Goals as goal

pub returns : goal.returns
returns c =
    let numbers = c.args.counts_less_1.now in
    let block = c.compress_block_unsorted.ensures in
    let width = sym (width_is c.compress_block_unsorted.result.0 numbers block.width block.packed.small block.least) in
    let recorded : true ≡ has_freq (record_option_of c.args.option) = sym c.if-not-has_freq.false ∙ c.has_freq.ensures in
    let here = changed c.args.self.now c.self.inside.skip_write _ _ _
    (λ xs. xs ++ width_of numbers ∷ []) (λ xs. xs ++ packed_bytes numbers) c.self.view_is
    (c.in_ok-write_term_freq.ensures ∙ ap (λ w. c.self.inside.skip_write ++ w ∷ []) width)
    (c.in_ok-put_packed.ensures c.compress_block_unsorted.result.0 numbers block) in
    let P : Bool → Type 0 = λ b. ◌≡◌ {A = Blocks} (record { skips = c.write_term_freq.new.self; blocks = c.put_packed.new.blocks.items }) (record { skips = c.args.self.now.skips ++ (if b then width_of numbers ∷ [] else []); blocks = c.args.self.now.blocks ++ (if b then packed_bytes numbers else []) }) in
    subst P recorded here
