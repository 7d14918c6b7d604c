-- Why a record is damaged.
use Rattle.std.specs.Prelude.{[], ⊤, ◌++◌, ◌∷◌, ◌≡◌, Bool, List, None, Some, length, slice_get, take, ℕ}
use Rattle.std.specs.List.{AllByRecursion}
use Rattle.definitions.specs.Schema.{Schema}
use Rattle.definitions.specs.Settings.{Settings}
use Rattle.index_file.specs.Bodies.{IsBody}
use Rattle.index_file.specs.Lists.{LeavesList}
use Rattle.index_file.specs.Places.{Follow}
use Rattle.index_file.specs.declared.index_file.IndexFile.{IndexFile}
use Rattle.inspect.specs.Contents.{OpensTo}
use Rattle.inspect.specs.Documents.{IsNewIn, IsUnreadable}
use Rattle.inspect.specs.Records.{HasBody, IsGate}
use Rattle.inspect.specs.declared.damage.Damage.{Damage}
use Rattle.inspect.specs.declared.damage.Reason.{Reason}
use Rattle.inspect.specs.declared.damage.Reason.TheVariants.{AliveSets, CutOff, Document, KeptSegments, NewSegment, NoList, NoMaking}
use Rattle.inspect.specs.declared.damage.Unread.{Unread}
use Rattle.layouts.specs.RecordBodies.{first_in}
use Rattle.layouts.specs.RecordFiles.{IsDamaged}
use Rattle.segment_definitions.specs.ListBodies.{Member, Part, fresh, kept}
use Rattle.segment_definitions.specs.IndexFiles.{TakesSegments}
use Rattle.segment_definitions.specs.Segments.{IsSegment}

-- ---- a body that makes no list

-- a new segment is one
abbrev pub IsNewSegment : Schema → Part → Type 0
IsNewSegment schema (kept index) = ⊤
IsNewSegment schema (fresh segment) = (num_docs : ℕ) × IsSegment schema num_docs segment

-- the part at an index is a new segment, and is none
abbrev pub IsNoSegment : Schema → List Part → ℕ → Type 0
IsNoSegment schema parts index = (segment : List ℕ) × (slice_get parts index ≡ Some (fresh segment)) × ((num_docs : ℕ) → ¬ IsSegment schema num_docs segment)

-- Behind a list of a number of segments a body is none that lists segments; or it keeps what can't be kept; or a new
-- segment is none; or all of this is as it should be, so that an alive set isn't that of its segment.
abbrev pub IsUnfit : Schema → ℕ → List ℕ → Reason → Type 0
IsUnfit schema num_before body NoList = (parts : List Part) (sets : List (List Bool)) → ¬ IsBody parts sets body
IsUnfit schema num_before body KeptSegments = (parts : List Part) × (sets : List (List Bool)) × IsBody parts sets body × ¬ Follow num_before parts
IsUnfit schema num_before body (NewSegment index) = (parts : List Part) × (sets : List (List Bool)) × IsBody parts sets body × IsNoSegment schema parts index
IsUnfit schema num_before body AliveSets = (parts : List Part) × (sets : List (List Bool)) × IsBody parts sets body × Follow num_before parts × AllByRecursion (IsNewSegment schema) parts
IsUnfit schema num_before body CutOff = ⊥
IsUnfit schema num_before body NoMaking = ⊥
IsUnfit schema num_before body (Document segment doc unread) = ⊥

-- ---- a record

-- the records before a gate leave a list, behind it there is a body, and this makes none of that list
pub record IsUnfitAt (bytes : List ℕ) (offset : ℕ) (rest : List ℕ) (reason : Reason) : Type 0 where
  pub schema : Schema
  pub settings : Settings
  pub before : List Member
  pub body : List ℕ
  pub end : ℕ
  pub left : LeavesList schema settings (take offset bytes ++ 0 ∷ []) end before
  pub has : HasBody rest body
  pub unfit : IsUnfit schema (length before) body reason

-- no whole record follows the gate
abbrev pub IsCutOff : List ℕ → Type 0
IsCutOff rest = (body : List ℕ) → ¬ HasBody rest body

-- the first record doesn't say what an index is made of
abbrev pub HasNoMaking : ℕ → List ℕ → Type 0
HasNoMaking offset rest = (offset ≡ 0) × ((body : List ℕ) × HasBody rest body × (first_in body ≡ None))

-- the file opens, a document of a segment of its last list can't be read, and that segment is new in the record
pub record HasUnreadable (bytes rest : List ℕ) (number doc : ℕ) (unread : Unread) : Type 0 where
  pub file : IndexFile
  pub opens : OpensTo bytes file
  pub segment : List ℕ
  pub told : IsUnreadable file.schema file.members.items number doc unread segment
  pub body : List ℕ
  pub has : HasBody rest body
  pub brings : IsNewIn body segment

-- Why the record behind the gate at an offset is damaged: the file is damaged from there on, since no whole record
-- follows, or the first one has no making, or its body makes no list; or the file opens, and has a document there that
-- can't be read.
abbrev pub IsReason : List ℕ → ℕ → List ℕ → Reason → Type 0
IsReason bytes offset rest CutOff = IsDamaged TakesSegments bytes offset × IsCutOff rest
IsReason bytes offset rest NoMaking = IsDamaged TakesSegments bytes offset × HasNoMaking offset rest
IsReason bytes offset rest NoList = IsDamaged TakesSegments bytes offset × IsUnfitAt bytes offset rest NoList
IsReason bytes offset rest KeptSegments = IsDamaged TakesSegments bytes offset × IsUnfitAt bytes offset rest KeptSegments
IsReason bytes offset rest (NewSegment index) = IsDamaged TakesSegments bytes offset × IsUnfitAt bytes offset rest (NewSegment index)
IsReason bytes offset rest AliveSets = IsDamaged TakesSegments bytes offset × IsUnfitAt bytes offset rest AliveSets
IsReason bytes offset rest (Document segment doc unread) = HasUnreadable bytes rest segment doc unread

-- the gate that is told is one of the file, behind as many records, and that is why the record there is damaged
pub record IsDamageOf (bytes : List ℕ) (damage : Damage) : Type 0 where
  pub rest : List ℕ
  pub gate : IsGate bytes damage.number damage.gate rest
  pub why : IsReason bytes damage.gate rest damage.reason
