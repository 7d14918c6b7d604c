-- The slots of living documents, and why they aren't appended to a store.
use Rattle.std.specs.Prelude.{◌+◌, ◌<◌, ◌^◌, ◌≡◌, ◌≤◌, ◌⊎◌, Bool, List, None, false, length, true, ℕ}
use Rattle.std.specs.List.{slice_index_or}
use Rattle.common.specs.BitSets.{count_set}
use Rattle.definitions.specs.declared.fault.Fault.{Fault}
use Rattle.definitions.specs.declared.fault.Fault.TheVariants as faults
use Rattle.layouts.specs.Stores.{Block, max_docs}
use Rattle.store.specs.Slots.{HasSlot, IsBadSlot}
use Rattle.store.specs.Writing.{Written, docs_of, passes_limit}

-- ---- one document

-- its slot passes a limit of the store
abbrev pub SlotPasses : Written → ℕ → List Block → Type 0
SlotPasses w doc blocks = (slot : List ℕ) × HasSlot blocks doc slot × (passes_limit w (length slot) ≡ true)

-- memory was wanting, a limit would be passed, or the document can't be read
abbrev pub IsSlotRefusal : Fault → Written → ℕ → List Block → Type 0
IsSlotRefusal fault w doc blocks = (fault ≡ faults.OutOfMemory) ⊎ ((fault ≡ faults.Limit) × SlotPasses w doc blocks) ⊎ ((fault ≡ faults.Damaged None) × IsBadSlot blocks doc)

-- ---- all living documents

-- a living document's slot is too long for a block
abbrev pub HasLongSlot : ℕ → List Bool → List Block → Type 0
HasLongSlot block_size flags blocks = (doc : ℕ) × (slot : List ℕ) × (slice_index_or flags doc false ≡ true) × HasSlot blocks doc slot × (2 ^ 32 ≤ block_size + length slot + 8)

-- a living document's block is none
abbrev pub HasBadSlot : List Bool → List Block → Type 0
HasBadSlot flags blocks = (doc : ℕ) × (slice_index_or flags doc false ≡ true) × IsBadSlot blocks doc

-- with these documents the store would have too many, or one that is too long
abbrev pub PassesStore : Written → List Bool → List Block → Type 0
PassesStore w flags blocks = (max_docs < docs_of w + count_set flags) ⊎ HasLongSlot w.block_size flags blocks

-- memory was wanting, a limit would be passed, or a living document can't be read
abbrev pub IsAppendRefusal : Fault → Written → List Bool → List Block → Type 0
IsAppendRefusal fault w flags blocks = (fault ≡ faults.OutOfMemory) ⊎ ((fault ≡ faults.Limit) × PassesStore w flags blocks) ⊎ ((fault ≡ faults.Damaged None) × HasBadSlot flags blocks)
