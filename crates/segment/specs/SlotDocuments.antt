-- Documents as they are read from slots.
use Rattle.std.specs.Prelude.{◌≡◌, ◌⊎◌, List, None, Some, false, ℕ}
use Rattle.definitions.specs.Calls.{has_unknown_field}
use Rattle.definitions.specs.Schema.{Schema}
use Rattle.definitions.specs.Values.{Document}
use Rattle.definitions.specs.declared.fault.Fault.{Fault}
use Rattle.definitions.specs.declared.fault.Fault.TheVariants as faults
use Rattle.layouts.specs.DocumentReading.{read_document}
use Rattle.layouts.specs.Stores.{Block}
use Rattle.store.specs.Slots.{HasSlot, IsSlotFault}

-- the slot is this document, whose fields the schema has
abbrev pub IsSlotOf : Schema → List ℕ → Document → Type 0
IsSlotOf schema slot doc = (read_document slot ≡ Some doc) × (has_unknown_field schema doc ≡ false)

-- it is none
abbrev pub IsNoDocument : Schema → List ℕ → Type 0
IsNoDocument schema slot = (doc : Document) → ¬ IsSlotOf schema slot doc

-- in blocks, the slot at an index is this document
abbrev pub HoldsDocument : Schema → List Block → ℕ → Document → Type 0
HoldsDocument schema blocks index doc = (slot : List ℕ) × HasSlot blocks index slot × IsSlotOf schema slot doc

-- it is none
abbrev pub HoldsNoDocument : Schema → List Block → ℕ → Type 0
HoldsNoDocument schema blocks index = (slot : List ℕ) × HasSlot blocks index slot × IsNoDocument schema slot

-- memory was wanting, there is no slot at the index, or it is no document
abbrev pub IsDocumentFault : Schema → List Block → ℕ → Fault → Type 0
IsDocumentFault schema blocks index fault = (fault ≡ faults.OutOfMemory)
    ⊎ (IsSlotFault blocks index fault ⊎ ((fault ≡ faults.Damaged None) × HoldsNoDocument schema blocks index))
