-- What is left of a body and of the list before it, and of a file behind some of its records.
use Rattle.std.specs.Prelude.{[], ◌++◌, ◌<◌, ◌^◌, ◌∷◌, ◌≡◌, List, Some, drop, flat_map, length, true, ℕ}
use Rattle.std.specs.List.{AllByRecursion, last_or}
use Rattle.definitions.specs.Schema.{Schema}
use Rattle.definitions.specs.Settings.{Settings}
use Rattle.layouts.specs.RecordBodies.{first_in}
use Rattle.layouts.specs.RecordFiles.{AreShort, IsNoIndex, records, sized_body}
use Rattle.index_file.specs.Places.{places_rise}
use Rattle.segment_definitions.specs.ListBodies.{Makes, Member, Part, part_bytes}
use Rattle.segment_definitions.specs.IndexFiles.{AreMade}
use Rattle.segment_definitions.specs.Segments.{IsSegment}
use Rattle.index_file.specs.Lists.{IsListed}
use Rattle.index_file.specs.declared.member.Member as code
use Rattle.index_file.specs.declared.part_reader.PartReader.{PartReader}

-- These parts are left, and other bytes behind them, and what stands in the list before behind the last segment that was
-- kept. The indices of what is left go on from there.
pub record IsLeft (all : List code.Member) (parts : List Part) (more : List ℕ) (reader : PartReader) : Type 0 where
  pub listed : AllByRecursion (IsListed reader.opener.schema.now) all
  pub before : drop reader.passed all ≡ reader.before.items
  pub rise : places_rise reader.passed (length all) parts ≡ true
  pub bytes : reader.bytes ≡ flat_map part_bytes parts ++ more

-- behind an open gate there is a record whose body says what an index is made of, and the gate of the next record
pub record HasFirst (made : Schema × Settings) (bytes rest : List ℕ) : Type 0 where
  pub body : List ℕ
  pub short : length body < 2 ^ 64
  pub bytes_are : drop 1 bytes ≡ sized_body body ++ rest
  pub more : 0 < length rest
  pub says : first_in body ≡ Some made

-- behind an open gate there is a record whose body makes this list, and the gate of the next record
pub record HasList (schema : Schema) (before after : List Member) (bytes rest : List ℕ) : Type 0 where
  pub body : List ℕ
  pub short : length body < 2 ^ 64
  pub bytes_are : drop 1 bytes ≡ sized_body body ++ rest
  pub more : 0 < length rest
  pub makes : Makes (IsSegment schema) before after body

-- These bodies were read, which leave these members; a gate begins what is left, and each body so far may follow those
-- before it.
pub record IsReadUpTo (schema : Schema) (settings : Settings) (bytes rest : List ℕ) (members : List Member) : Type 0 where
  pub first : List ℕ
  pub bodies : List (List ℕ)
  pub lists : List (List Member)
  pub index : ¬ IsNoIndex bytes
  pub bytes_are : bytes ≡ records (first ∷ bodies) ++ rest
  pub short : AreShort (first ∷ bodies)
  pub next : 0 < length rest
  pub made : first_in first ≡ Some (schema, settings)
  pub follow : AreMade (IsSegment schema) [] bodies lists
  pub last : last_or (Some []) lists ≡ Some members
