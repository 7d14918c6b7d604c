-- Documents that can be read, and those that can't.
use Rattle.std.specs.Prelude.{◌<◌, ◌≡◌, Bool, Contains, List, Some, slice_get, ℕ}
use Rattle.definitions.specs.Schema.{Schema}
use Rattle.definitions.specs.Values.{Document}
use Rattle.index_file.specs.Bodies.{IsBody}
use Rattle.index_file.specs.declared.member.Member.{Member}
use Rattle.inspect.specs.declared.damage.Unread.{Unread}
use Rattle.inspect.specs.declared.damage.Unread.TheVariants.{Block, Slot}
use Rattle.inspect.specs.declared.document_damage.DamagedDocument.{DamagedDocument}
use Rattle.segment.specs.Opened.{blocks_of, bytes_of, num_docs_of}
use Rattle.segment.specs.SlotDocuments.{HoldsDocument, HoldsNoDocument}
use Rattle.segment.specs.declared.segment.Segment.{Segment}
use Rattle.segment_definitions.specs.ListBodies.{Part, fresh}
use Rattle.store.specs.Slots.{IsBadSlot}

-- the slot of a document is one of a document of these fields
abbrev pub IsReadable : Schema → Segment → ℕ → Type 0
IsReadable schema segment doc = (read : Document) × HoldsDocument schema (blocks_of segment) doc read

-- so is that of every document of a segment
abbrev pub IsWhole : Schema → Member → Type 0
IsWhole schema m = (doc : ℕ) → doc < num_docs_of m.segment → IsReadable schema m.segment doc

-- the block of a document is none, or its slot is no document of these fields
abbrev pub IsUnread : Schema → Segment → ℕ → Unread → Type 0
IsUnread schema segment doc Block = IsBadSlot (blocks_of segment) doc
IsUnread schema segment doc Slot = HoldsNoDocument schema (blocks_of segment) doc

-- a document of the segment at an index can't be read
pub record IsUnreadable (schema : Schema) (members : List Member) (number doc : ℕ) (unread : Unread) (segment : List ℕ) : Type 0 where
  pub member : Member
  pub stands : slice_get members number ≡ Some member
  pub bytes_are : segment ≡ bytes_of member.segment
  pub why : IsUnread schema member.segment doc unread

-- it is that of the segment and the document that are told
abbrev pub IsTold : Schema → List Member → DamagedDocument → Type 0
IsTold schema members d = IsUnreadable schema members d.number d.doc d.unread d.segment

-- a body lists a segment as a new one
abbrev pub IsNewIn : List ℕ → List ℕ → Type 0
IsNewIn body segment = (parts : List Part) × (sets : List (List Bool)) × IsBody parts sets body × Contains parts (fresh segment)
