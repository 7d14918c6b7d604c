-- The blocks of a writer are those of a store, whatever stands in them.
use Rattle.std.proofs.Common.{[], List, arith, length, ◌++◌, ◌+◌, ◌≡◌, ◌∷◌, ℕ}
use Rattle.layouts.specs.Stores.{AreBlocks, Block}
use Rattle.store.proofs.SlotLaws.{count_is}
use Rattle.store.proofs.Writes.{all_last, count_more}
use Rattle.store.specs.Writing.{AreWritten, blocks_of, closed, count_of, written}

pub blocks_kept : (bs : List Block) (ds : List (List ℕ)) (size : ℕ) → AreWritten size bs ds → AreBlocks (blocks_of (written bs ds size)) × (count_of (blocks_of (written bs ds size)) ≡ count_of bs + length ds)
blocks_kept bs [] size are =
    let docs = are.docs in
    let sum = count_is bs in
    (record { nonempty = are.nonempty; docs = omega (arith, sum, docs) }, omega arith)
blocks_kept bs (d ∷ ds) size are =
    let docs = are.docs in
    let sum = count_is (bs ++ closed (d ∷ ds) ∷ []) in
    let counted = count_more bs (closed (d ∷ ds)) in (
      record {
        nonempty = all_last bs (closed (d ∷ ds)) are.nonempty (omega arith);
        docs = omega (arith, sum, counted, docs);
      },
      counted,
    )
