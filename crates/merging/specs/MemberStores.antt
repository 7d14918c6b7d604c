-- The slots of members, and those of their living documents.
use Rattle.std.specs.Prelude.{[], ⊤, ◌++◌, ◌+◌, ◌<◌, ◌∷◌, ◌≡◌, ◌⊎◌, List, None, Some, length, slice_get, ℕ}
use Rattle.std.specs.List.{items_where_true}
use Rattle.common.specs.BitSets.{count_set}
use Rattle.definitions.specs.declared.fault.Fault.{Fault}
use Rattle.definitions.specs.declared.fault.Fault.TheVariants as faults
use Rattle.layouts.specs.Stores.{Hold, max_docs}
use Rattle.merging.specs.LivingSlots.{HasBadSlot, HasLongSlot}
use Rattle.merging.specs.declared.member_stores.MemberStore.{MemberStore}
use Rattle.store.specs.Writing.{count_of}

-- a member's store has a document for each flag
abbrev pub IsFlagged : MemberStore → Type 0
IsFlagged m = count_of m.store.now.blocks ≡ length m.alive.now

-- the members' stores hold these slots
abbrev pub AreHeld : List MemberStore → List (List (List ℕ)) → Type 0
AreHeld [] [] = ⊤
AreHeld [] (slots ∷ all) = ⊥
AreHeld (m ∷ ms) [] = ⊥
AreHeld (m ∷ ms) (slots ∷ all) = Hold m.store.now.blocks slots × AreHeld ms all

-- the slots of the living documents
abbrev pub merged_slots : List MemberStore → List (List (List ℕ)) → List (List ℕ)
merged_slots [] all = []
merged_slots (m ∷ ms) [] = []
merged_slots (m ∷ ms) (slots ∷ all) = items_where_true m.alive.now slots ++ merged_slots ms all

-- how many documents are alive
abbrev pub living_count : List MemberStore → ℕ
living_count [] = 0
living_count (m ∷ ms) = count_set m.alive.now + living_count ms

-- one of the members, which has something
abbrev pub AnyMember : (MemberStore → Type 0) → List MemberStore → Type 0
AnyMember Has ms = (k : ℕ) × (m : MemberStore) × (slice_get ms k ≡ Some m) × Has m

-- there would be too many documents, or one that is too long
abbrev pub AnyPasses : ℕ → List MemberStore → Type 0
AnyPasses block_size ms = (max_docs < living_count ms) ⊎ AnyMember (λ m. HasLongSlot block_size m.alive.now m.store.now.blocks) ms

-- memory was wanting, a limit would be passed, or a living document can't be read
abbrev pub IsMergeRefusal : Fault → ℕ → List MemberStore → Type 0
IsMergeRefusal fault block_size ms = (fault ≡ faults.OutOfMemory) ⊎ ((fault ≡ faults.Limit) × AnyPasses block_size ms) ⊎ ((fault ≡ faults.Damaged None) × AnyMember (λ m. HasBadSlot m.alive.now m.store.now.blocks) ms)
