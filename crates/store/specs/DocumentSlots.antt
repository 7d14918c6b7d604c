-- Slots as documents.
use Rattle.std.specs.Prelude.{◌<◌, ◌≡◌, ◌≤◌, ◌⊎◌, List, None, Some, length, slice_index_or, [], ℕ}
use Rattle.definitions.specs.declared.fault.Fault.{Fault}
use Rattle.definitions.specs.declared.fault.Fault.TheVariants as faults
use Rattle.definitions.specs.Values.{Document}
use Rattle.layouts.specs.DocumentReading.{read_document}
use Rattle.layouts.specs.Stores.{Block}
use Rattle.store.specs.Caches.{Kept, looked_up, opened}
use Rattle.store.specs.Slots.{HasSlot, IsSlotFault, block_number}

-- a document's slot reads as this
abbrev pub HasDocument : List Block → ℕ → Document → Type 0
HasDocument blocks doc read = (bytes : List ℕ) × HasSlot blocks doc bytes × (read_document bytes ≡ Some read)

-- a document's slot reads as none
abbrev pub HasNoDocument : List Block → ℕ → Type 0
HasNoDocument blocks doc = (bytes : List ℕ) × HasSlot blocks doc bytes × (read_document bytes ≡ None)

-- memory was wanting, the slot isn't to be had, or it is no document
abbrev pub IsGetFault : List Block → ℕ → Fault → Type 0
IsGetFault blocks doc fault = (fault ≡ faults.OutOfMemory) ⊎ (IsSlotFault blocks doc fault ⊎ ((fault ≡ faults.Damaged None) × HasNoDocument blocks doc))

-- the block of a document was looked up once: it is kept where its slot was to be had, and no document came of that
abbrev pub IsRefusedGet : List Block → ℕ → Kept → Kept → Fault → Type 0
IsRefusedGet blocks doc old new fault = (IsSlotFault blocks doc fault × (new ≡ looked_up (block_number blocks doc) old))
    ⊎ (((fault ≡ faults.OutOfMemory) ⊎ ((fault ≡ faults.Damaged None) × HasNoDocument blocks doc)) × (new ≡ opened (block_number blocks doc) (looked_up (block_number blocks doc) old)))

-- memory was wanting, there is no slot of this number, or it is no document
abbrev pub IsUnread : List (List ℕ) → ℕ → Fault → Type 0
IsUnread slots doc fault = (fault ≡ faults.OutOfMemory)
    ⊎ (((fault ≡ faults.InvalidArgument) × (length slots ≤ doc))
    ⊎ ((fault ≡ faults.Damaged None) × (doc < length slots) × (read_document (slice_index_or slots doc []) ≡ None)))
