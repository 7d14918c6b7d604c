-- The file of an index: what each of its records leaves, in groups, one for each segment.
use Rattle.std.specs.Prelude.{[], ⊤, ◌++◌, ◌∷◌, ◌≡◌, List, None, Some, length, ℕ}
use Rattle.std.specs.List.{AllZip, items_where_true, last_or}
use Rattle.definitions.specs.Analyzers.{Analyzer}
use Rattle.definitions.specs.Schema.{Schema}
use Rattle.definitions.specs.Settings.{Settings}
use Rattle.definitions.specs.Values.{Document}
use Rattle.layouts.specs.RecordBodies.{first_in}
use Rattle.layouts.specs.RecordFiles.{IsFile}
use Rattle.segment_definitions.specs.ListBodies.{Makes, Member}
use Rattle.segment_definitions.specs.Segments.{IsSegment, IsSegmentOf}

-- each body makes the next list of the one before
abbrev pub AreMade : (ℕ → List ℕ → Type 0) → List Member → List (List ℕ) → List (List Member) → Type 0
AreMade is_segment before [] [] = ⊤
AreMade is_segment before [] (after ∷ lists) = ⊥
AreMade is_segment before (body ∷ bodies) [] = ⊥
AreMade is_segment before (body ∷ bodies) (after ∷ lists) = Makes is_segment before after body × AreMade is_segment after bodies lists

-- bodies of one index: the first says what it is made of, and each later one makes a list of segments of the one before
abbrev pub AreBodies : List (List ℕ) → Type 0
AreBodies [] = ⊥
AreBodies (first ∷ bodies) = (schema : Schema) × (settings : Settings) × (lists : List (List Member)) × (first_in first ≡ Some (schema, settings)) × AreMade (IsSegment schema) [] bodies lists

-- a body may follow these
abbrev pub TakesSegments : List (List ℕ) → List ℕ → Type 0
TakesSegments before body = AreBodies (before ++ body ∷ [])

-- a member is a segment of documents, of which the living are the group
pub record IsGroup (schema : Schema) (analyze : Analyzer) (m : Member) (group : List Document) : Type 0 where
  pub docs : List Document
  pub segment : IsSegmentOf schema analyze docs m.0
  pub flagged : length m.1 ≡ length docs
  pub living : group ≡ items_where_true m.1 docs

-- The bytes are a file of records: of these settings and this schema, and after each record of these groups. After the
-- first there are none.
pub record IsRecordFile (schema : Schema) (settings : Settings) (analyze : Analyzer) (bytes : List ℕ) (lists : List (List (List Document))) : Type 0 where
  pub first : List ℕ
  pub bodies : List (List ℕ)
  pub members : List (List Member)
  pub file : IsFile (first ∷ bodies) bytes
  pub made : first_in first ≡ Some (schema, settings)
  pub follow : AreMade (IsSegment schema) [] bodies members
  pub groups : AllZip (AllZip (IsGroup schema analyze)) ([] ∷ members) lists

-- a file after whose last record these groups stand
abbrev pub LeavesGroups : Schema → Settings → Analyzer → List ℕ → List (List Document) → Type 0
LeavesGroups schema settings analyze bytes groups = (lists : List (List (List Document))) × IsRecordFile schema settings analyze bytes lists × (last_or None lists ≡ Some groups)
