-- The file of an index: what it says, and how it lies on a device.
use Rattle.std.specs.Prelude.{[], ◌∷◌, ◌≡◌, ◌⊎◌, Bool, List, Some, false, is_some, length, ℕ}
use Rattle.std.specs.List.{AllZip, last_or}
use Rattle.definitions.specs.Analyzers.{Analyzer}
use Rattle.definitions.specs.Disk.{IsImage, Unsynced, settled}
use Rattle.definitions.specs.Making.{are_analyzed}
use Rattle.definitions.specs.Moments.{LeavesOnly}
use Rattle.definitions.specs.Schema.{Schema}
use Rattle.definitions.specs.Settings.{Settings}
use Rattle.definitions.specs.Values.{Document}
use Rattle.definitions.specs.declared.fault.Fault.{Fault}
use Rattle.definitions.specs.declared.fault.Fault.TheVariants as faults
use Rattle.layouts.specs.RecordBodies.{first_in}
use Rattle.layouts.specs.RecordFiles.{IsAtRest, IsFile, IsNoIndex, IsOneOf}
use Rattle.index_file.specs.Outcomes.{IsRefusal}
use Rattle.segment_definitions.specs.ListBodies.{Member}
use Rattle.segment_definitions.specs.IndexFiles.{AreMade, IsGroup, LeavesGroups, TakesSegments}
use Rattle.segment_definitions.specs.Segments.{IsSegment}

-- bodies of an index of this schema and these settings, of which the last leaves this list of segments; the first leaves
-- none
pub record BodiesLeave (schema : Schema) (settings : Settings) (bodies : List (List ℕ)) (members : List Member) : Type 0 where
  pub first : List ℕ
  pub later : List (List ℕ)
  pub lists : List (List Member)
  pub bodies_are : bodies ≡ first ∷ later
  pub made : first_in first ≡ Some (schema, settings)
  pub follow : AreMade (IsSegment schema) [] later lists
  pub last : last_or (Some []) lists ≡ Some members

-- the documents of that list stand in these groups, one for each segment
pub record SayGroups (schema : Schema) (settings : Settings) (analyze : Analyzer) (bodies : List (List ℕ))
    (groups : List (List Document)) : Type 0 where
  pub members : List Member
  pub leave : BodiesLeave schema settings bodies members
  pub are_groups : AllZip (IsGroup schema analyze) members groups

-- a file whose last record leaves this list
abbrev pub LeavesMembers : Schema → Settings → List Member → List ℕ → Type 0
LeavesMembers schema settings members bytes = (bodies : List (List ℕ)) × IsFile bodies bytes × BodiesLeave schema settings bodies members

-- a file after whose last record documents stand in these groups
abbrev pub IsFileOf : Schema → Settings → Analyzer → List (List Document) → List ℕ → Type 0
IsFileOf schema settings analyze groups bytes = (bodies : List (List ℕ)) × IsFile bodies bytes × SayGroups schema settings analyze bodies groups

-- a file that leaves this list, with its closed gate at an offset and nothing after it, all on the disk
pub record Rests (schema : Schema) (settings : Settings) (members : List Member) (content : List ℕ) (unsynced : Unsynced)
    (gate : ℕ) : Type 0 where
  pub bodies : List (List ℕ)
  pub at_rest : IsAtRest content gate bodies
  pub leave : BodiesLeave schema settings bodies members
  pub synced : unsynced ≡ settled (length content)

-- a file of an index with a tokenizer that isn't known
abbrev pub HasUnknown : (List ℕ → Bool) → List ℕ → Type 0
HasUnknown knows bytes =
    (schema : Schema) × (settings : Settings) × (members : List Member)
    × LeavesMembers schema settings members bytes × (are_analyzed knows schema ≡ false)

-- why the file of a device isn't opened: no index or damage, or else a tokenizer that isn't known
abbrev pub IsOpenRefusal : (List ℕ → Bool) → List ℕ → Fault → Type 0
IsOpenRefusal knows bytes fault =
    IsRefusal TakesSegments bytes fault ⊎ ((fault ≡ faults.UnknownTokenizer) × HasUnknown knows bytes)

-- what an open is refused by, whatever the device does: the device, memory that ran out, no index, damage at a gate, or
-- a tokenizer that isn't known
abbrev pub IsOpenFault : Fault → Type 0
IsOpenFault fault =
    (fault ≡ faults.Device) ⊎ (fault ≡ faults.OutOfMemory) ⊎ (fault ≡ faults.NoIndex)
    ⊎ ((gate : ℕ) × (fault ≡ faults.Damaged (Some gate))) ⊎ (fault ≡ faults.UnknownTokenizer)

-- what the file of a device refuses of an index that could be made
abbrev pub IsCreateRefusal : Fault → Type 0
IsCreateRefusal fault = (fault ≡ faults.Device) ⊎ (fault ≡ faults.NotEmpty)

-- a first body of an index
abbrev pub is_first : List ℕ → Bool
is_first body = is_some (first_in body)

-- a crash at any moment from the old device to the new one leaves a file of the one or the other groups
pub record LeavesEither {D : Type 0} (moment : D → ℕ) (left_since : D → ℕ → List ℕ → Type 0) (old new : D)
    (schema : Schema) (settings : Settings) (analyze : Analyzer) (one other : List (List Document)) : Type 0 where
  pub first : List (List ℕ)
  pub second : List (List ℕ)
  pub says_one : SayGroups schema settings analyze first one
  pub says_other : SayGroups schema settings analyze second one ⊎ SayGroups schema settings analyze second other
  pub images : LeavesOnly moment left_since old new (IsOneOf first second)

-- a crash at any moment from the old device to the new one leaves a file of the one list of segments or of the other
pub record LeavesEitherList {D : Type 0} (moment : D → ℕ) (left_since : D → ℕ → List ℕ → Type 0) (old new : D)
    (schema : Schema) (settings : Settings) (one other : List Member) : Type 0 where
  pub first : List (List ℕ)
  pub second : List (List ℕ)
  pub leaves_one : BodiesLeave schema settings first one
  pub leaves_other : BodiesLeave schema settings second one ⊎ BodiesLeave schema settings second other
  pub images : LeavesOnly moment left_since old new (IsOneOf first second)

-- ---- what a crash leaves, by its lists

-- files of the same bodies
abbrev pub HasSameBodies : List ℕ → List ℕ → Type 0
HasSameBodies bytes image = (bodies : List (List ℕ)) × IsFile bodies bytes × IsFile bodies image

-- what a crash might have left before, or a file of the bodies that were read
abbrev pub IsOldOrSame : {D : Type 0} → (D → List ℕ) → (D → Unsynced) → D → List ℕ → Type 0
IsOldOrSame content unsynced old image = IsImage (content old) (unsynced old) image ⊎ HasSameBodies (content old) image

-- a file whose every record gives its list, and the last one these groups or those
abbrev pub LeavesOneOf : Schema → Settings → Analyzer → List (List Document) → List (List Document) → List ℕ → Type 0
LeavesOneOf schema settings analyze one other bytes =
    LeavesGroups schema settings analyze bytes one ⊎ LeavesGroups schema settings analyze bytes other

-- no index, or a file whose every record gives its list, and the last one the empty list
abbrev pub LeavesNone : Analyzer → List ℕ → Type 0
LeavesNone analyze bytes =
    IsNoIndex bytes ⊎ ((schema : Schema) × (settings : Settings) × LeavesGroups schema settings analyze bytes [])
