-- How an iteration goes through the blocks of a store.
use Rattle.std.specs.Prelude.{◌&&◌, ◌+◌, ◌≡◌, ◌⊎◌, Bool, Err, List, None, Ok, Option, Result, Some, false, nat_eq, nat_lt, slice_get, slice_index_or, true, ℕ}
use Rattle.common.specs.BitSets.{IsFirst}
use Rattle.definitions.specs.declared.fault.Fault.{Fault}
use Rattle.layouts.specs.Stores.{Block}
use Rattle.layouts.specs.declared.checkpoint.Checkpoint.{Checkpoint}
use Rattle.store.specs.declared.current_block.CurrentBlock.{CurrentBlock}
use Rattle.store.specs.Caches.{Kept, looked_up, opened}
use Rattle.store.specs.Slots.{HasSlot, IsBadBlock, IsOpenBlock, IsSlotFault, Reader, block_number}
use Rattle.store.specs.TakenGroups.{IsDamage}
use Rattle.store.specs.Writing.{block_in, count_of}

-- whether the iteration stands in a block
abbrev pub stands_in : ℕ → Option ℕ → Bool
stands_in at None = false
stands_in at (Some number) = nat_eq number at

-- a block in which it doesn't stand is looked up, and was opened
abbrev pub IsWalked : ℕ → Option ℕ → Kept → Kept → Type 0
IsWalked at number old new = elim (stands_in at number) [ true ↦ new ≡ old | false ↦ new ≡ opened at (looked_up at old) ]

-- a walk that gave no bytes: the block may have been opened
abbrev pub IsRefusedWalk : ℕ → Option ℕ → Kept → Kept → Type 0
IsRefusedWalk at number old new = elim (stands_in at number) [ true ↦ new ≡ old | false ↦ (new ≡ looked_up at old) ⊎ (new ≡ opened at (looked_up at old)) ]

-- the next document comes, and the iteration stands in this one's block
abbrev pub IsStep : Reader → ℕ → Reader → ℕ → Type 0
IsStep old doc new next = (next ≡ doc + 1) × (new.blocks ≡ old.blocks) × (new.current ≡ Some (block_number old.blocks doc))

-- whether an iteration gives a document: each below their number, or those of them that are alive
abbrev pub is_due : ℕ → Option (List Bool) → ℕ → Bool
is_due count None doc = nat_lt doc count
is_due count (Some alive) doc = nat_lt doc count && slice_index_or alive doc false

-- one step: the bytes of the first document that is due, or a fault of its block, and none where none is due
abbrev pub IsNext : Option (List Bool) → Reader → ℕ → Option (Result (List ℕ) Fault) → Reader → ℕ → Type 0
IsNext alive old from None new next = IsFirst (is_due (count_of old.blocks) alive) from None × (new ≡ old) × (next ≡ from)
IsNext alive old from (Some (Ok slot)) new next = (doc : ℕ) × IsFirst (is_due (count_of old.blocks) alive) from (Some doc) × HasSlot old.blocks doc slot × IsStep old doc new next × IsWalked (block_number old.blocks doc) old.current old.kept new.kept
IsNext alive old from (Some (Err fault)) new next = (doc : ℕ) × IsFirst (is_due (count_of old.blocks) alive) from (Some doc) × IsSlotFault old.blocks doc fault × IsStep old doc new next × IsRefusedWalk (block_number old.blocks doc) old.current old.kept new.kept

-- ---- the fields of a reader

-- the block in which the iteration stands
abbrev pub stand : Option CurrentBlock → Option ℕ
stand None = None
stand (Some c) = Some c.at

-- a block that was opened, or could not be
abbrev pub IsTried : Block → Result (List ℕ) Fault → Type 0
IsTried b (Ok bytes) = IsOpenBlock b bytes
IsTried b (Err fault) = IsDamage fault (IsBadBlock b)

-- where the iteration stands in a block, that block was tried
abbrev pub IsTriedAt : ℕ → Block → Option CurrentBlock → Type 0
IsTriedAt at b None = Unit {0}
IsTriedAt at b (Some c) = c.at ≡ at → IsTried b c.block

-- it stands in the block at a checkpoint
abbrev pub IsCurrent : List ℕ → List Checkpoint → Option CurrentBlock → Type 0
IsCurrent bytes cs None = Unit {0}
IsCurrent bytes cs (Some c) = (reach : Checkpoint) × (slice_get cs c.at ≡ Some reach) × IsTried (block_in bytes reach) c.block
