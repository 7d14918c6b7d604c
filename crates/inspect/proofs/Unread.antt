-- Why a document can't be read.
use Rattle.std.proofs.Common.{◌∙◌, ◌≡◌, List, Option, inl, inr, refl, subst, sym, ℕ}
use Rattle.definitions.proofs.Lists.{some_same as some_is}
use Rattle.definitions.specs.Schema.{Schema}
use Rattle.definitions.specs.declared.fault.Fault.{Fault}
use Rattle.definitions.specs.declared.fault.Fault.TheVariants as faults
use Rattle.inspect.specs.Documents.{IsUnread}
use Rattle.inspect.specs.declared.damage.Unread.{Unread}
use Rattle.inspect.specs.declared.damage.Unread.TheVariants.{Block, Slot}
use Rattle.layouts.specs.Stores.{Block as Stored}
use Rattle.segment.specs.Opened.{blocks_of}
use Rattle.segment.specs.SlotDocuments.{HoldsNoDocument, IsDocumentFault}
use Rattle.segment.specs.declared.segment.Segment.{Segment}
use Rattle.store.specs.Reading.{IsBlockOf}
use Rattle.store.specs.Slots.{HasSlot, IsBadSlot}

-- a block with a slot isn't damaged
no_bad_slot : (blocks : List Stored) (doc : ℕ) (slot : List ℕ) → HasSlot blocks doc slot → IsBadSlot blocks doc → ⊥
no_bad_slot blocks doc slot (p, stands, is) (q, also, bad) =
    let same : p ≡ q = some_is p q (sym stands ∙ also) in
    bad (subst (λ (r : Stored × ℕ). IsBlockOf r.0.count r.0.bytes) same is.0)

-- a slot that can be read is none of a document
no_document : (schema : Schema) (blocks : List Stored) (doc : ℕ) (slot : List ℕ) (fault : Fault) (offset : Option ℕ) → fault ≡ faults.Damaged offset → IsDocumentFault schema blocks doc fault → HasSlot blocks doc slot → HoldsNoDocument schema blocks doc
no_document schema blocks doc slot fault offset is (inl memory) has = (let never : faults.Damaged offset ≡ faults.OutOfMemory = sym is ∙ memory in cc)
no_document schema blocks doc slot fault offset is (inr (inl (inl (memory, within)))) has = (let never : faults.Damaged offset ≡ faults.OutOfMemory = sym is ∙ memory in cc)
no_document schema blocks doc slot fault offset is (inr (inl (inr (inl (past, beyond))))) has = (let never : faults.Damaged offset ≡ faults.InvalidArgument = sym is ∙ past in cc)
no_document schema blocks doc slot fault offset is (inr (inl (inr (inr (same, bad))))) has = absurd (no_bad_slot blocks doc slot has bad)
no_document schema blocks doc slot fault offset is (inr (inr (same, none))) has = none

-- a document that isn't read stands in a block that is none, or its slot is none of a document, as another look tells
pub is_unread : (schema : Schema) (segment : Segment) (blocks now : List Stored) (doc : ℕ) (fault : Fault) (offset : Option ℕ) (unread : Unread) → blocks ≡ blocks_of segment → now ≡ blocks → fault ≡ faults.Damaged offset
    → IsDocumentFault schema blocks doc fault → (unread ≡ Block → IsBadSlot now doc) → (unread ≡ Slot → (slot : List ℕ) × HasSlot now doc slot) → IsUnread schema segment doc unread
is_unread schema segment blocks now doc fault offset Block is same damaged refused block slot = subst (λ (bs : List Stored). IsBadSlot bs doc) (same ∙ is) (block refl)
is_unread schema segment blocks now doc fault offset Slot is same damaged refused block slot =
    let has = slot refl in
    let held : HasSlot blocks doc has.0 = subst (λ (bs : List Stored). HasSlot bs doc has.0) same has.1 in
    subst (λ (bs : List Stored). HoldsNoDocument schema bs doc) is (no_document schema blocks doc has.0 fault offset damaged refused held)
