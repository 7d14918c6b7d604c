-- Lists of segments: as the code has them, what a body makes of one, and what the last record of a file leaves.
use Rattle.std.specs.Prelude.{[], ⊤, ◌∷◌, ◌≡◌, Bool, List, Some, length, ℕ}
use Rattle.std.specs.List.{last_or}
use Rattle.definitions.specs.Schema.{Schema}
use Rattle.definitions.specs.Settings.{Settings}
use Rattle.layouts.specs.RecordBodies.{first_in}
use Rattle.layouts.specs.RecordFiles.{EndsAt}
use Rattle.segment.specs.Opened.{IsOpened, bytes_of, num_docs_of}
use Rattle.segment_definitions.specs.ListBodies.{IsMember, IsOfPart, Member, Part}
use Rattle.segment_definitions.specs.IndexFiles.{AreMade}
use Rattle.segment_definitions.specs.Segments.{IsSegment}
use Rattle.index_file.specs.declared.member.Member as code

-- the bytes of a segment, and a flag for each of its documents
abbrev pub member_of : code.Member → Member
member_of m = (bytes_of m.segment, m.alive)

-- it was opened under that schema, and there is a flag for each of its documents
pub record IsListed (schema : Schema) (m : code.Member) : Type 0 where
  pub opened : IsOpened schema m.segment
  pub flagged : length m.alive ≡ num_docs_of m.segment

-- a member of the next list: the segment of its part, in its layout, with these flags
pub record IsNext (schema : Schema) (before : List Member) (part : Part) (flags : List Bool) (m : Member) : Type 0 where
  pub of_part : IsOfPart before part m
  pub flags_are : m.1 ≡ flags
  pub member : IsMember (IsSegment schema) m

-- one for each part and each list of flags
abbrev pub AreNext : Schema → List Member → List Part → List (List Bool) → List Member → Type 0
AreNext schema before [] [] [] = ⊤
AreNext schema before [] [] (m ∷ ms) = ⊥
AreNext schema before [] (flags ∷ sets) ms = ⊥
AreNext schema before (part ∷ parts) [] ms = ⊥
AreNext schema before (part ∷ parts) (flags ∷ sets) [] = ⊥
AreNext schema before (part ∷ parts) (flags ∷ sets) (m ∷ ms) = IsNext schema before part flags m × AreNext schema before parts sets ms

-- The bytes are a file of this schema and these settings, with its closed gate at an offset, and its last record leaves
-- this list. The first record leaves none.
pub record LeavesList (schema : Schema) (settings : Settings) (bytes : List ℕ) (gate : ℕ) (members : List Member) : Type 0 where
  pub first : List ℕ
  pub bodies : List (List ℕ)
  pub lists : List (List Member)
  pub ends : EndsAt bytes gate (first ∷ bodies)
  pub made : first_in first ≡ Some (schema, settings)
  pub follow : AreMade (IsSegment schema) [] bodies lists
  pub last : last_or (Some []) lists ≡ Some members
