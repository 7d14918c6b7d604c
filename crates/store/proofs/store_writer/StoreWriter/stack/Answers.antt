-- The store's blocks follow, where they aren't too many documents.
use Rattle.std.proofs.Common.{List, [], ap, arith, length, subst, sym, ◌++◌, ◌+◌, ◌∙◌, ◌≡◌, ◌≤◌, ℕ}
use Rattle.layouts.specs.Stores.{Adjoin, Block, byte_end, data_of, doc_end, max_docs}
use Rattle.store.specs.Stacking.{stacked}
use Rattle.store.specs.Writing.{AreWritten, Stand, blocks_of, closed_in, count_of, docs_of, pending_in, written}
use Rattle.store.proofs.Opened.{adjoin_of, ends_of}
use Rattle.store.proofs.Stacked.{written_stacked}
use Rattle.store.proofs.Writes.{sound, value_of}
use Rattle.store.proofs.store_writer.StoreWriter.stack.Goals as goal

pub stack-requires-clause-stands : goal.stack-requires-clause-stands
stack-requires-clause-stands c =
    let bs : List Block = closed_in c.self.inside.parts in
    let ds : List (List ℕ) = pending_in c.self.inside.parts in
    let ends : doc_end 0 c.checkpoints.result.now ≡ 0 + count_of c.args.store.now.blocks = ap (doc_end 0) c.checkpoints.ensures ∙ (ends_of c.args.store.now.blocks 0 0).0 in
    let docs : count_of bs + length ds ≡ docs_of c.args.self.now = ap docs_of c.self.view_is in
    let few : count_of bs + length ds + doc_end 0 c.checkpoints.result.now ≤ max_docs = omega (arith, c.num_docs.ensures.count, c.num_docs-2.ensures.count) in
    (bs, ds, c.self.invariant.0, few)

pub stack-requires-clause-run : goal.stack-requires-clause-run
stack-requires-clause-run c = subst (Adjoin 0 0) (sym c.checkpoints.ensures) (adjoin_of c.args.store.now.blocks 0 0)

pub stack-requires-clause-covers : goal.stack-requires-clause-covers
stack-requires-clause-covers c =
    let ends : byte_end 0 c.checkpoints.result.now ≡ 0 + length (data_of c.args.store.now.blocks) = ap (byte_end 0) c.checkpoints.ensures ∙ (ends_of c.args.store.now.blocks 0 0).1 in
    omega (arith, ap length c.bytes.ensures)

pub invariant_of-self-2 : goal.invariant_of-self-2
invariant_of-self-2 c =
    let bs : List Block = closed_in c.self.inside.parts in
    let ds : List (List ℕ) = pending_in c.self.inside.parts in
    let more : List Block = c.args.store.now.blocks in
    let st : Stand c.stack.new.self (blocks_of (written bs ds 0) ++ more) [] = c.in_ok-stack.ensures.ok bs ds more c.self.invariant.0 c.checkpoints.ensures c.bytes.ensures in
    let docs : count_of bs + length ds ≡ docs_of c.args.self.now = ap docs_of c.self.view_is in
    let few : count_of bs + length ds + count_of more ≤ max_docs = omega (arith, c.num_docs.ensures.count, c.num_docs-2.ensures.count) in
    sound (λ x y. Stand c.stack.new.self x y × AreWritten c.self.inside.block_size x y) st (st, written_stacked c.self.inside.block_size bs more ds c.self.invariant.1 c.num_docs-2.ensures.valid few)

pub returns-clause-ok : goal.returns-clause-ok
returns-clause-ok c =
    let bs : List Block = closed_in c.self.inside.parts in
    let ds : List (List ℕ) = pending_in c.self.inside.parts in
    let more : List Block = c.args.store.now.blocks in
    let st : Stand c.stack.new.self (blocks_of (written bs ds 0) ++ more) [] = c.in_ok-stack.ensures.ok bs ds more c.self.invariant.0 c.checkpoints.ensures c.bytes.ensures in
    value_of c.self.inside.block_size st ∙ ap (λ v. stacked v more) c.self.view_is
