-- What a writer of postings stands for.
use Rattle.std.specs.Prelude.{◌<◌, ◌^◌, ◌≡◌, ◌≤◌, List, Some, length, map, slice_get, true, ℕ}
use Rattle.std.specs.List.{AllByRecursion}
use Rattle.definitions.specs.Schema.{Entry, Schema, is_indexed, max_fields}
use Rattle.definitions.specs.Scoring.{DontFall}
use Rattle.definitions.specs.Terms.{term_bytes}
use Rattle.postings_writer.specs.Fields.{HasRecorders, Terms}
use Rattle.postings_writer.specs.Occurrences.{Occurrence, places_of}

-- a writer: the recorders of each field's terms, and one more than the last document, or 0
pub record Writer : Type 0 where
  pub fields : List Terms
  pub num_docs : ℕ

-- the bytes are a term of an indexed field
pub record IsIndexedTerm (schema : Schema) (t : List ℕ) : Type 0 where
  pub field : ℕ
  pub entry : Entry
  pub key : List ℕ
  pub fits : field < 2 ^ 32
  pub entry_is : slice_get schema field ≡ Some entry
  pub indexed : is_indexed entry ≡ true
  pub term_is : t ≡ term_bytes field entry.kind key

-- an occurrence of such a term, which the layout has room for
pub record IsOccurrence (schema : Schema) (num_docs : ℕ) (o : Occurrence) : Type 0 where
  pub known : IsIndexedTerm schema o.term
  pub within : o.doc < num_docs
  pub placed_fit : o.position < 2 ^ 31

-- the recorders are those of the occurrences
abbrev pub HasOccurrences : List Occurrence → List Terms → ℕ × Entry → Type 0
HasOccurrences os fields (field, e) = (terms : Terms) × (slice_get fields field ≡ Some terms) × HasRecorders e (λ key. places_of (term_bytes field e.kind key) os) terms

-- it has recorders for each field of the schema
abbrev pub HasFields : Schema → Writer → Type 0
HasFields schema w = length w.fields ≡ length schema

-- These occurrences of terms of the schema were recorded, in this order, and documents don't fall.
pub record Stands (schema : Schema) (w : Writer) (os : List Occurrence) : Type 0 where
  pub schema_fits : length schema ≤ max_fields
  pub fields_are : HasFields schema w
  pub each_occurrence : AllByRecursion (IsOccurrence schema w.num_docs) os
  pub rising : DontFall (map (λ (o : Occurrence). o.doc) os)
  pub recorded : (field : ℕ) (e : Entry) → slice_get schema field ≡ Some e → HasOccurrences os w.fields (field, e)
