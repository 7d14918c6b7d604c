-- A reader: the block of a document, and what is kept.
use Rattle.std.proofs.Common.{Option, ℕ, zero, suc, List, [], ◌∷◌, ◌++◌, ◌≡◌, ◌≤◌, ◌<◌, ◌-◌, Bool, true, false, Some, None, Contains, cond, length-append, nat_eq, nat_lt, refl, sym, ap, ap₂, ◌∙◌, subst, arith, length, take, drop, inl, inr, ◌⊎◌}
use Rattle.std.proofs.lemmas.Bool.Decides.{nat_tests}
use Rattle.bytes.proofs.Ranges.{drop-take_less}
use Rattle.std.specs.List.{position_or_len, slice_get, slice_index_or, slice_range}
use Rattle.std.specs.Map.{lookup}
use Rattle.lru.proofs.CallerLemmas.{Contains-lookup}
use Rattle.definitions.specs.declared.fault.Fault.{Fault}
use Rattle.layouts.specs.Stores.{Block, Hold, IsBlock}
use Rattle.layouts.specs.declared.checkpoint.Checkpoint.{Checkpoint}
use Rattle.store.specs.declared.block_cache.BlockCache.{BlockCache}
use Rattle.store.specs.Caches.{HasRoom, Kept, entries_of, kept_of}
use Rattle.store.specs.Reading.{IsBlockOf}
use Rattle.store.specs.SkipIndexes.{passes}
use Rattle.store.specs.Slots.{HasSlot, IsBadBlock, IsBadSlot, IsKeptBlock, IsOpenBlock, IsPast, IsReader, IsSlotFault, Reader, block_and_index, block_number, reader}
use Rattle.store.specs.declared.current_block.CurrentBlock.{CurrentBlock}
use Rattle.store.specs.Walking.{IsCurrent, IsRefusedWalk, IsTried, IsTriedAt, IsWalked, stand}
use Rattle.store.specs.TakenGroups.{IsDamage}
use Rattle.store.specs.Writing.{block_in, blocks_in, count_of}
use Rattle.store.proofs.Opened.{At, at_none, at_some, checks_back, counts_back}

-- the fields of a reader with a value
pub record Fields (r : Reader) (whole : List ℕ) (cs : List Checkpoint) (cache : BlockCache) (current : Option ℕ) : Type 0 where
  pub is : reader (blocks_in whole cs) (kept_of cache) current ≡ r
  pub holds : IsReader whole cs cache

-- the block of a document
pub record Found (r : Reader) (whole : List ℕ) (doc at : ℕ) (c : Checkpoint) : Type 0 where
  pub bytes : (c.byte_range.start ≤ c.byte_range.end) × (c.byte_range.end ≤ length whole)
  pub start : c.doc_range.start ≤ doc
  pub end : doc < c.doc_range.end
  pub located : block_and_index r.blocks doc ≡ Some (block_in whole c, doc - c.doc_range.start)
  pub number : at ≡ block_number r.blocks doc
  pub few : doc < count_of r.blocks

abbrev pub IsAt : List Checkpoint → ℕ → ℕ × Checkpoint → Type 0
IsAt cs doc p = (p.0 ≡ position_or_len (passes doc) cs) × (slice_get cs p.0 ≡ Some p.1)

pub found : {current : Option ℕ} (r : Reader) (whole : List ℕ) (cs : List Checkpoint) (cache : BlockCache) (doc at : ℕ) (c : Checkpoint) → Fields r whole cs cache current → IsAt cs doc (at, c) → Found r whole doc at c
found r whole cs cache doc at c f is =
    let covers = f.holds.covers in
    let run = f.holds.checks.adjoin in
    let there : At cs whole 0 0 doc c = at_some cs whole 0 0 doc c run (omega arith) (ap (slice_get cs) (sym is.0) ∙ is.1) in
    let within = there.within in
    let docs = there.docs in
    let end = there.end in
    let counts = counts_back cs whole 0 0 run in
    let blocks : blocks_in whole cs ≡ r.blocks = ap (λ (x : Reader). x.blocks) f.is in
    let e : doc - 0 ≡ doc = omega arith in
    record {
      bytes = (there.order, omega arith);
      start = there.start;
      end = there.end;
      located = ap₂ block_and_index (sym blocks) (sym e) ∙ there.located;
      number = is.0 ∙ ap (position_or_len (passes doc)) (sym (checks_back cs whole 0 0 run (omega arith))) ∙ ap (λ bs. block_number bs doc) blocks;
      few = subst (λ bs. doc < count_of bs) blocks (omega arith);
    }

-- no block has it
pub not_found : {current : Option ℕ} (r : Reader) (whole : List ℕ) (cs : List Checkpoint) (cache : BlockCache) (doc : ℕ) → Fields r whole cs cache current → slice_get cs (position_or_len (passes doc) cs) ≡ None → count_of r.blocks ≤ doc
not_found r whole cs cache doc f none =
    let run = f.holds.checks.adjoin in
    let past = at_none cs 0 0 doc run (omega arith) none in
    let counts = counts_back cs whole 0 0 run in
    subst (λ (x : Reader). count_of x.blocks ≤ doc) f.is (omega arith)

-- ---- what is kept

pub kept_open : {current : Option ℕ} (r : Reader) (whole : List ℕ) (cs : List Checkpoint) (cache : BlockCache) (at : ℕ) (c : Checkpoint) → Fields r whole cs cache current → slice_get cs at ≡ Some c → (bytes : List ℕ) → lookup (nat_eq at) (entries_of cache) ≡ Some bytes → IsOpenBlock (block_in whole c) bytes
kept_open r whole cs cache at c f got bytes there =
    let among = Contains-lookup (nat_eq at) (entries_of cache) bytes there in
    let key : among.0 ≡ at = (let t = among.2 in grind (arith, nat_tests)) in
    let is = f.holds.kept (among.0, bytes) among.1 in
    let both : Some is.0 ≡ Some c = sym is.1 ∙ ap (slice_get cs) key ∙ got in
    let same : is.0 ≡ c = cc in
    subst (λ x. IsOpenBlock (block_in whole x) bytes) same is.2

-- a block more is kept
pub keeps_more : {current : Option ℕ} (r : Reader) (whole : List ℕ) (cs : List Checkpoint) (cache new : BlockCache) (at : ℕ) (c : Checkpoint) → Fields r whole cs cache current → slice_get cs at ≡ Some c → ((e : ℕ × List ℕ) → Contains (entries_of new) e → Contains (entries_of cache) e ⊎ ((e.0 ≡ at) × IsOpenBlock (block_in whole c) e.1)) → HasRoom new → IsReader whole cs new
keeps_more r whole cs cache new at c f got entries room = record { checks = f.holds.checks; covers = f.holds.covers; kept = λ e h. of e (entries e h); room = room }
  where
    of : (e : ℕ × List ℕ) → Contains (entries_of cache) e ⊎ ((e.0 ≡ at) × IsOpenBlock (block_in whole c) e.1) → IsKeptBlock whole cs e
    of e (inl old) = f.holds.kept e old
    of e (inr it) = (c, ap (slice_get cs) it.0 ∙ got, it.1)

-- ---- the answers

-- a block that can't be opened
pub slot_fault : (r : Reader) (whole : List ℕ) (doc at : ℕ) (c : Checkpoint) (fault : Fault) → Found r whole doc at c → IsDamage fault (IsBadBlock (block_in whole c)) → IsSlotFault r.blocks doc fault
slot_fault r whole doc at c fault at_it (inl memory) = inl (memory, at_it.few)
slot_fault r whole doc at c fault at_it (inr damage) = inr (inr (damage.0, ((block_in whole c, doc - c.doc_range.start), at_it.located, damage.1)))

-- a document's bytes within its block
pub slot_cut : (block cut slot : List ℕ) (start end : ℕ) → start ≤ end → cut ≡ take end block → slot ≡ drop start cut → slot ≡ slice_range block start end
slot_cut block cut slot start end order first second = second ∙ ap (drop start) first ∙ drop-take_less block start end order

pub slot_there : (r : Reader) (whole : List ℕ) (doc at : ℕ) (c : Checkpoint) (block slot : List ℕ) → Found r whole doc at c → IsOpenBlock (block_in whole c) block
    → ((docs : List (List ℕ)) → length docs ≡ c.doc_range.end - c.doc_range.start → IsBlock docs block → slot ≡ slice_index_or docs (doc - c.doc_range.start) [])
    → HasSlot r.blocks doc slot
slot_there r whole doc at c block slot at_it is reads =
    ((block_in whole c, doc - c.doc_range.start), at_it.located, (is.1, λ docs many block_is. reads docs many (subst (IsBlock docs) (sym is.0) block_is)))

-- the block that was opened is one
pub block_is : (b : Block) (block : List ℕ) → IsOpenBlock b block → IsBlockOf b.count block
block_is b block is = subst (IsBlockOf b.count) (sym is.0) is.1

-- a look-up at the number of the block
pub kept_at : {current : Option ℕ} (r : Reader) (whole : List ℕ) (cs : List Checkpoint) (cache : BlockCache) (doc at : ℕ) (c : Checkpoint) (kept : Kept) (step : ℕ → Kept → Kept) → Fields r whole cs cache current → Found r whole doc at c → kept ≡ step at (kept_of cache) → kept ≡ step (block_number r.blocks doc) r.kept
kept_at r whole cs cache doc at c kept step f at_it e = e ∙ ap₂ step at_it.number (ap (λ (x : Reader). x.kept) f.is)

-- ---- a store of slots

-- where a slot stands
pub record Located (slots : List (List ℕ)) (doc : ℕ) (p : Block × ℕ) : Type 0 where
  pub docs : List (List ℕ)
  pub many : length docs ≡ p.0.count
  pub block : IsBlock docs p.0.bytes
  pub slot : slice_index_or docs p.1 [] ≡ slice_index_or slots doc []

-- in the first of two lists
in_first : (xs ys : List (List ℕ)) (i : ℕ) → i < length xs → slice_index_or (xs ++ ys) i [] ≡ slice_index_or xs i []
in_first [] ys i below = absurd (omega arith)
in_first (x ∷ xs) ys zero below = refl
in_first (x ∷ xs) ys (suc i) below = in_first xs ys i (omega arith)

-- in the second
in_second : (xs ys : List (List ℕ)) (i : ℕ) → length xs ≤ i → slice_index_or (xs ++ ys) i [] ≡ slice_index_or ys (i - length xs) []
in_second [] ys i past = (let e : i ≡ i - 0 = omega arith in ap (λ n. slice_index_or ys n []) e)
in_second (x ∷ xs) ys zero past = absurd (omega arith)
in_second (x ∷ xs) ys (suc i) past = (let e : i - length xs ≡ suc i - length (x ∷ xs) = omega arith in in_second xs ys i (omega arith) ∙ ap (λ n. slice_index_or ys n []) e)

pub hold_located : (bs : List Block) (slots : List (List ℕ)) (doc : ℕ) (p : Block × ℕ) → Hold bs slots → block_and_index bs doc ≡ Some p → Located slots doc p
hold_located [] slots doc p hold at = cc
hold_located (b ∷ bs) slots doc p hold at = go (λ later. hold_located bs hold.1 (doc - b.count) p hold.5 later) (nat_lt doc b.count) refl
  where
    go : (block_and_index bs (doc - b.count) ≡ Some p → Located hold.1 (doc - b.count) p) → (y : Bool) → nat_lt doc b.count ≡ y → Located slots doc p
    go next true e =
        let here : Some (b, doc) ≡ Some p = ap (λ y. cond y (Some (b, doc)) (block_and_index bs (doc - b.count))) (sym e) ∙ at in
        let same : (b, doc) ≡ p = cc in
        let many = hold.3 in
        let below : doc < length hold.0 = grind (arith, nat_tests) in
        subst (Located slots doc) same (record { docs = hold.0; many = hold.3; block = hold.4; slot = sym (in_first hold.0 hold.1 doc below) ∙ ap (λ xs. slice_index_or xs doc []) (sym hold.2) })
    go next false e =
        let later : block_and_index bs (doc - b.count) ≡ Some p = ap (λ y. cond y (Some (b, doc)) (block_and_index bs (doc - b.count))) (sym e) ∙ at in
        let it = next later in
        let many = hold.3 in
        let past : length hold.0 ≤ doc = grind (arith, nat_tests) in
        record {
          docs = it.docs;
          many = it.many;
          block = it.block;
          slot = it.slot ∙ ap (λ n. slice_index_or hold.1 (doc - n) []) (sym hold.3) ∙ sym (in_second hold.0 hold.1 doc past) ∙ ap (λ xs. slice_index_or xs doc []) (sym hold.2);
        }

pub hold_length : (bs : List Block) (slots : List (List ℕ)) → Hold bs slots → length slots ≡ count_of bs
hold_length [] slots hold = ap length hold
hold_length (b ∷ bs) slots hold = (let rest = hold_length bs hold.1 hold.5 in let many = hold.3 in omega (arith, ap length hold.2, length-append hold.0 hold.1))

-- the bytes of a document are its slot
pub slot_is : (bs : List Block) (slots : List (List ℕ)) (doc : ℕ) (slot : List ℕ) → Hold bs slots → HasSlot bs doc slot → slot ≡ slice_index_or slots doc []
slot_is bs slots doc slot hold has =
    let located = hold_located bs slots doc has.0 hold has.1 in
    has.2.1 located.docs located.many located.block ∙ located.slot

-- no slot is bad
pub none_bad : (bs : List Block) (slots : List (List ℕ)) (doc : ℕ) → Hold bs slots → IsBadSlot bs doc → ⊥
none_bad bs slots doc hold bad =
    let located = hold_located bs slots doc bad.0 hold bad.1 in
    bad.2 (located.docs, located.many, located.block)

pub fault_is : (bs : List Block) (slots : List (List ℕ)) (doc : ℕ) (fault : Fault) → Hold bs slots → IsSlotFault bs doc fault → IsPast fault doc (length slots)
fault_is bs slots doc fault hold (inl memory) = (let many = hold_length bs slots hold in let few = memory.1 in inl (memory.0, omega arith))
fault_is bs slots doc fault hold (inr (inl past)) = (let many = hold_length bs slots hold in let few = past.1 in inr (past.0, omega arith))
fault_is bs slots doc fault hold (inr (inr bad)) = absurd (none_bad bs slots doc hold bad.1)

-- ---- iterations

-- the block in which an iteration stands was tried
pub tried_at : (whole : List ℕ) (cs : List Checkpoint) (current : Option CurrentBlock) (at : ℕ) (c : Checkpoint) → IsCurrent whole cs current → slice_get cs at ≡ Some c → IsTriedAt at (block_in whole c) current
tried_at whole cs None at c is got = tt
tried_at whole cs (Some k) at c is got = λ here.
    let both : Some is.0 ≡ Some c = sym is.1 ∙ ap (slice_get cs) here ∙ got in
    let same : is.0 ≡ c = cc in
    subst (λ x. IsTried (block_in whole x) k.block) same is.2

pub current_again : (whole : List ℕ) (cs : List Checkpoint) (current : Option CurrentBlock) (at : ℕ) (c : Checkpoint) → IsTriedAt at (block_in whole c) current → stand current ≡ Some at → slice_get cs at ≡ Some c → IsCurrent whole cs current
current_again whole cs None at c tried is got = cc
current_again whole cs (Some k) at c tried is got =
    let here : k.at ≡ at = cc in
    (c, ap (slice_get cs) here ∙ got, tried here)

pub walked_at : (at n : ℕ) (number current : Option ℕ) (old kept new : Kept) → IsWalked at number old new → at ≡ n → number ≡ current → old ≡ kept → IsWalked n current kept new
walked_at at n number current old kept new is e1 e2 e3 =
    subst (λ x. IsWalked n current x new) e3 (subst (λ x. IsWalked n x old new) e2 (subst (λ x. IsWalked x number old new) e1 is))

pub refused_at : (at n : ℕ) (number current : Option ℕ) (old kept new : Kept) → IsRefusedWalk at number old new → at ≡ n → number ≡ current → old ≡ kept → IsRefusedWalk n current kept new
refused_at at n number current old kept new is e1 e2 e3 =
    subst (λ x. IsRefusedWalk n current x new) e3 (subst (λ x. IsRefusedWalk n x old new) e2 (subst (λ x. IsRefusedWalk x number old new) e1 is))
