use Rattle.std.proofs.Common.{arith, subst, sym, take, ◌*◌, ◌∙◌, List, ℕ}
use Rattle.codes.proofs.StrictDeltaSums.{ascending-documents, deltas-documents}
use Rattle.codes.specs.UnpackedBlocks.{unpacked}
use Rattle.layouts.specs.Deltas.{next_of}
use Rattle.layouts.specs.PackedBlocks.{IsPacked}
use Rattle.segment_postings.proofs.BlockLists.{unpacked_packed}
use Rattle.segment_postings.specs.Reading.{block_docs}
use Rattle.segment_postings.proofs.decoded_block.decode_docs.Goals as goal

pub returns-clause-docs : goal.returns-clause-docs
returns-clause-docs c =
    let numbers = unpacked c.args.width (take (16 * c.args.width) c.args.bytes.now) in
    let P : List ℕ → Type 0 = λ xs. IsPacked c.args.width xs (take (16 * c.args.width) c.args.bytes.now) in
    let packed = unpacked_packed c.args.width c.args.bytes.now (λ i. omega (arith, c.type_inv.bytes i)) c.requires.room in
    let documents = c.uncompress_block_sorted-consumed.ensures.documents (block_docs c.args.before c.args.width c.args.bytes.now) (ascending-documents (next_of c.args.before) numbers) c.requires.small (subst P (sym (deltas-documents (next_of c.args.before) numbers)) packed) in
    c.copy_from_slice.ensures.after ∙ (c.output_array.ensures ∙ documents)
