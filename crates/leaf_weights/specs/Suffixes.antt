-- The terms that begin with a prefix, as a reader keeps them.
use Rattle.std.specs.Prelude.{◌<◌, ◌≡◌, List, filter, map, nat_eq, slice_index, true, ℕ}
use Rattle.std.specs.List.{AllByRecursion, starts_with}
use Rattle.docsets.specs.Entries.{Entry}
use Rattle.definitions.specs.Recorded.{is_recorded}
use Rattle.definitions.specs.Schema.{Schema, field_has, has_positions}
use Rattle.definitions.specs.Terms.{field_of, has_kind, payload_of}
use Rattle.segment_reader.specs.Dictionaries.{Placed}
use Rattle.segment_reader.specs.Readers.{Reader, dictionary_in, postings_in}
use Rattle.layouts.specs.InvertedIndexes.{IndexedField}
use Rattle.leaf_weights.specs.ReadTerms.{with_positions}

-- the terms of the prefix's field that begin with it, ascending, each with where its postings stand
abbrev pub suffix_places : Reader → List ℕ → List Placed
suffix_places index t = filter (λ (d : Placed). starts_with nat_eq d.0 (payload_of t)) (dictionary_in index (field_of t))

-- what is read of terms of a field
abbrev pub read_places : List IndexedField → ℕ → List Placed → List (List Entry)
read_places fields field places = map (λ (d : Placed). with_positions (postings_in fields field d.0)) places

-- their value bytes are bytes
abbrev pub HaveBytes : List Placed → Type 0
HaveBytes places = AllByRecursion (λ (d : Placed). (i : ℕ) → slice_index d.0 i < 256) places

-- a prefix has the code of its field's kind, and is of a text whose field records positions
pub record IsSearched (schema : Schema) (t : List ℕ) : Type 0 where
  pub kind_is : field_has (λ e. has_kind e.kind t) schema (field_of t) ≡ true
  pub recorded : is_recorded has_positions schema t ≡ true
