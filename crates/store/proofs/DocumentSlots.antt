-- Slots that are read as documents.
use Rattle.std.proofs.Common.{◌+◌, ◌-◌, ◌<◌, ◌∷◌, ◌≡◌, ◌∙◌, Bool, List, Some, [], ap, arith, cond, false, length, nat_lt, refl, sym, true, ℕ}
use Rattle.std.proofs.lemmas.Bool.Decides.{nat_tests}
use Rattle.layouts.specs.Stores.{Block, Hold}
use Rattle.store.specs.Slots.{block_and_index}
use Rattle.store.specs.Writing.{count_of}
use Rattle.store.proofs.Readers.{hold_length}

-- a document that is located is one of the blocks'
pub located_below : (bs : List Block) (doc : ℕ) (p : Block × ℕ) → block_and_index bs doc ≡ Some p → doc < count_of bs
located_below [] doc p at = cc
located_below (b ∷ bs) doc p at = go (λ later. located_below bs (doc - b.count) p later) (nat_lt doc b.count) refl
  where
    go : (block_and_index bs (doc - b.count) ≡ Some p → doc - b.count < count_of bs) → (y : Bool) → nat_lt doc b.count ≡ y → doc < b.count + count_of bs
    go next true e = grind (arith, nat_tests)
    go next false e =
        let later : block_and_index bs (doc - b.count) ≡ Some p = ap (λ y. cond y (Some (b, doc)) (block_and_index bs (doc - b.count))) (sym e) ∙ at in
        let rest = next later in
        omega (arith, rest)

-- and so it has a slot
pub slot_below : (bs : List Block) (slots : List (List ℕ)) (doc : ℕ) (p : Block × ℕ) → Hold bs slots → block_and_index bs doc ≡ Some p → doc < length slots
slot_below bs slots doc p hold at =
    let many = hold_length bs slots hold in
    let below = located_below bs doc p at in
    omega (arith, many, below)
