-- The slots of the members of a merge, and why their store isn't written.
use Rattle.std.specs.Prelude.{[], ⊤, ◌++◌, ◌<◌, ◌∷◌, ◌≡◌, ◌⊎◌, Bool, List, None, Some, slice_get, ℕ}
use Rattle.std.specs.List.{items_where_true}
use Rattle.definitions.specs.declared.fault.Fault.{Fault}
use Rattle.definitions.specs.declared.fault.Fault.TheVariants as faults
use Rattle.layouts.specs.Stores.{Block, Hold, max_docs}
use Rattle.merging.specs.LivingSlots.{HasBadSlot, HasLongSlot}
use Rattle.segment.specs.Opened.{blocks_of}
use Rattle.segment.specs.Members.{Member, living_count}

-- the blocks of a member's store, and which of their documents are alive
abbrev pub with_blocks : Member → List Block × List Bool
with_blocks m = (blocks_of m.0, m.1)

-- the members' stores hold these slots
abbrev pub AreHeld : List Member → List (List (List ℕ)) → Type 0
AreHeld [] [] = ⊤
AreHeld [] (slots ∷ all) = ⊥
AreHeld (m ∷ ms) [] = ⊥
AreHeld (m ∷ ms) (slots ∷ all) = Hold (blocks_of m.0) slots × AreHeld ms all

-- the slots of the living documents
abbrev pub merged_slots : List Member → List (List (List ℕ)) → List (List ℕ)
merged_slots [] all = []
merged_slots (m ∷ ms) [] = []
merged_slots (m ∷ ms) (slots ∷ all) = items_where_true m.1 slots ++ merged_slots ms all

-- one of the members, which has something
abbrev pub AnyMember : (Member → Type 0) → List Member → Type 0
AnyMember Has ms = (k : ℕ) × (m : Member) × (slice_get ms k ≡ Some m) × Has m

-- a living document's slot is too long for a block
abbrev pub HasLongMember : ℕ → List Member → Type 0
HasLongMember block_size ms = AnyMember (λ m. HasLongSlot block_size m.1 (blocks_of m.0)) ms

-- a living document's block is none
abbrev pub HasBadMember : List Member → Type 0
HasBadMember ms = AnyMember (λ m. HasBadSlot m.1 (blocks_of m.0)) ms

-- memory was wanting, there would be too many documents or one that is too long, or a living document can't be read
abbrev pub IsStoreRefusal : Fault → ℕ → List Member → Type 0
IsStoreRefusal fault block_size ms = (fault ≡ faults.OutOfMemory) ⊎ ((fault ≡ faults.Limit) × ((max_docs < living_count ms) ⊎ HasLongMember block_size ms)) ⊎ ((fault ≡ faults.Damaged None) × HasBadMember ms)
