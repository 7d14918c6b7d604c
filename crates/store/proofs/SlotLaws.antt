-- A writer stands for a list of slots, and a document appends one.
use Rattle.std.proofs.Common.{ℕ, zero, suc, List, [], ◌∷◌, ◌++◌, ◌≡◌, ◌≤◌, ◌<◌, ◌+◌, ◌^◌, Bool, true, false, refl, sym, ap, ◌∙◌, subst, arith, append_assoc, append-nil, get_or, length, length-append, nat_lt, sum_by}
use Rattle.std.proofs.lemmas.Bool.Decides.{nat_tests}
use Rattle.std.proofs.lemmas.List.Sums.{sum_by-cons}
use Rattle.std.specs.List.{concat}
use Rattle.layouts.specs.Stores.{AreBlocks, Block, Hold, IsBlock, block_bytes, starts}
use Rattle.store.specs.Stacking.{stacked}
use Rattle.store.specs.Writing.{AreWritten, HoldsSlots, Written, blocks_of, closed, count_of, passes_limit, stored, written}
use Rattle.store.proofs.Blocks.{concat_grows}
use Rattle.store.proofs.Cuts.{length_starts, start_at}
use Rattle.store.proofs.Writes.{all_last, concat_more, count_more, limits_of, stored_open, stored_shut}

-- ---- a closed block is the block of its documents

past : (xs : List ℕ) (i : ℕ) → length xs ≤ i → get_or xs i 0 ≡ 0
past [] i far = refl
past (x ∷ xs) zero far = absurd (omega arith)
past (x ∷ xs) (suc i) far = past xs i (omega arith)

small_starts : (docs : List (List ℕ)) → length (concat docs) < 2 ^ 32 → (i : ℕ) → get_or (starts 0 docs) i 0 < 2 ^ 32
small_starts docs small i = go (nat_lt i (length docs)) refl
  where
    go : (b : Bool) → nat_lt i (length docs) ≡ b → get_or (starts 0 docs) i 0 < 2 ^ 32
    go true e =
        let below : i < length docs = grind (arith, nat_tests) in
        let at = start_at docs 0 i below in
        let grows = concat_grows docs i in
        omega (arith, grows.0, grows.1)
    go false e =
        let far : length docs ≤ i = grind (arith, nat_tests) in
        let none = past (starts 0 docs) i (omega (arith, length_starts docs 0)) in
        omega arith

pub closed_is_block : (docs : List (List ℕ)) → length (concat docs) < 2 ^ 32 → length docs < 2 ^ 32 → IsBlock docs (block_bytes docs)
closed_is_block docs small few = record { bytes_are = refl; starts_fit = small_starts docs small; count_fits = few }

-- blocks and one more hold their documents and its own
hold_more : (bs : List Block) (slots : List (List ℕ)) (docs : List (List ℕ)) → Hold bs slots → IsBlock docs (block_bytes docs) → Hold (bs ++ closed docs ∷ []) (slots ++ docs)
hold_more [] slots docs hold block = (docs, [], ap (λ xs. xs ++ docs) hold ∙ sym (append-nil docs), refl, block, refl)
hold_more (b ∷ bs) slots docs hold block =
    let rest = hold_more bs hold.1 docs hold.5 block in
    (hold.0, hold.1 ++ docs, ap (λ xs. xs ++ docs) hold.2 ∙ append_assoc hold.0 hold.1 docs, hold.3, hold.4, rest)

-- ---- a document appends a slot

pub slot_appended : (w : Written) (slots : List (List ℕ)) (doc : List ℕ) → AreWritten w.block_size w.blocks w.pending → HoldsSlots w slots → passes_limit w (length doc) ≡ false → HoldsSlots (stored w doc) (slots ++ doc ∷ [])
slot_appended w slots doc are holds within = go (nat_lt w.block_size (length (concat (w.pending ++ doc ∷ [])))) refl
  where
    more : slots ++ doc ∷ [] ≡ holds.0 ++ (w.pending ++ doc ∷ [])
    more = ap (λ xs. xs ++ doc ∷ []) holds.2 ∙ append_assoc holds.0 w.pending (doc ∷ [])

    go : (b : Bool) → nat_lt w.block_size (length (concat (w.pending ++ doc ∷ []))) ≡ b → HoldsSlots (stored w doc) (slots ++ doc ∷ [])
    go true e =
        let over : w.block_size < length (concat (w.pending ++ doc ∷ [])) = grind (arith, nat_tests) in
        let limits = limits_of w (length doc) within in
        let l0 = limits.0 in
        let l1 = limits.1 in
        let size = are.size in
        let small : length (concat (w.pending ++ doc ∷ [])) < 2 ^ 32 = omega (arith, ap length (concat_more w.pending doc), length-append (concat w.pending) doc) in
        let few : length (w.pending ++ doc ∷ []) < 2 ^ 32 = omega (arith, length-append w.pending (doc ∷ [])) in
        let made : HoldsSlots (written (w.blocks ++ closed (w.pending ++ doc ∷ []) ∷ []) [] w.block_size) (slots ++ doc ∷ []) = (holds.0 ++ (w.pending ++ doc ∷ []), hold_more w.blocks holds.0 (w.pending ++ doc ∷ []) holds.1 (closed_is_block (w.pending ++ doc ∷ []) small few), more ∙ sym (append-nil (holds.0 ++ (w.pending ++ doc ∷ [])))) in
        subst (λ v. HoldsSlots v (slots ++ doc ∷ [])) (sym (stored_shut w.blocks w.pending w.block_size doc over)) made
    go false e =
        let fits : length (concat (w.pending ++ doc ∷ [])) ≤ w.block_size = grind (arith, nat_tests) in
        let made : HoldsSlots (written w.blocks (w.pending ++ doc ∷ []) w.block_size) (slots ++ doc ∷ []) = (holds.0, holds.1, more) in
        subst (λ v. HoldsSlots v (slots ++ doc ∷ [])) (sym (stored_open w.blocks w.pending w.block_size doc fits)) made

-- ---- what is closed is a store of the slots

pub count_is : (bs : List Block) → sum_by (λ (b : Block). b.count) bs ≡ count_of bs
count_is [] = refl
count_is (b ∷ bs) = sum_by-cons (λ (x : Block). x.count) b bs ∙ ap (λ n. b.count + n) (count_is bs)

pub slots_kept : (bs : List Block) (ds slots : List (List ℕ)) (size : ℕ) → AreWritten size bs ds → HoldsSlots (written bs ds size) slots → AreBlocks (blocks_of (written bs ds size)) × Hold (blocks_of (written bs ds size)) slots
slots_kept bs [] slots size are holds =
    let docs = are.docs in
    (record { nonempty = are.nonempty; docs = omega (arith, count_is bs) }, subst (Hold bs) (sym (holds.2 ∙ append-nil holds.0)) holds.1)
slots_kept bs (d ∷ ds) slots size are holds =
    let docs = are.docs in
    let fits = are.fits (omega arith) in
    let within = are.size in
    let block = closed_is_block (d ∷ ds) (omega arith) (omega arith) in
    let counted = count_more bs (closed (d ∷ ds)) in (
      record {
        nonempty = all_last bs (closed (d ∷ ds)) are.nonempty (omega arith);
        docs = omega (arith, count_is (bs ++ closed (d ∷ ds) ∷ []));
      },
      subst (Hold (bs ++ closed (d ∷ ds) ∷ [])) (sym holds.2) (hold_more bs holds.0 (d ∷ ds) holds.1 block),
    )

-- ---- another store's blocks append their slots

hold_append : (xs ys : List Block) (slots more : List (List ℕ)) → Hold xs slots → Hold ys more → Hold (xs ++ ys) (slots ++ more)
hold_append [] ys slots more one two = subst (λ s. Hold ys (s ++ more)) (sym one) two
hold_append (b ∷ xs) ys slots more one two =
    (one.0, one.1 ++ more, ap (λ s. s ++ more) one.2 ∙ append_assoc one.0 one.1 more, one.3, one.4, hold_append xs ys one.1 more one.5 two)

pub slots_stacked : (w : Written) (slots more : List (List ℕ)) (blocks : List Block) → AreWritten w.block_size w.blocks w.pending → HoldsSlots w slots → Hold blocks more → HoldsSlots (stacked w blocks) (slots ++ more)
slots_stacked w slots more blocks are holds follow =
    let kept = slots_kept w.blocks w.pending slots w.block_size are holds in
    (slots ++ more, hold_append (blocks_of w) blocks slots more kept.1 follow, sym (append-nil (slots ++ more)))
