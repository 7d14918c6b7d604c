-- What is recorded while a document is indexed, and why that is refused.
use Rattle.std.specs.Prelude.{◌++◌, ◌+◌, ◌<◌, ◌==◌, ◌^◌, ◌≡◌, ◌≤◌, ◌⊎◌, IfSome, List, Some, bytes_eq, if◌then◌else◌, min, slice_get, true, ℕ}
use Rattle.std.specs.Map.{lookup}
use Rattle.std.specs.Option.{option_map_or}
use Rattle.definitions.specs.Indexing.{Placed}
use Rattle.definitions.specs.Postings.{terminated}
use Rattle.definitions.specs.Schema.{Entry, Kind, Schema, is_indexed}
use Rattle.definitions.specs.declared.fault.Fault.{Fault}
use Rattle.definitions.specs.declared.fault.Fault.TheVariants as faults
use Rattle.postings_writer.specs.Occurrences.{Occurrence, PassesCount, places_of}
use Rattle.postings_writer.specs.Writers.{HasFields, Stands, Writer}
use Rattle.document_indexer.specs.Runs.{AreStepsWithin, Starts, occurrences_at, run_terms, starts_after}
use Rattle.document_indexer.specs.Steps.{Step}

-- by a term's first bytes, a document and where its next text begins
abbrev pub Positions : Type 0
Positions = List (List ℕ × (ℕ × ℕ))

-- where the next text of a document begins
abbrev pub start_of : ℕ → List ℕ → Positions → ℕ
start_of doc prefix positions = option_map_or (λ p. if p.0 == doc then p.1 else 0) (lookup (bytes_eq prefix) positions) 0

-- these are a document's starts, each cut at the greatest position
abbrev pub HasStarts : ℕ → Positions → Starts → Type 0
HasStarts doc positions starts = (prefix : List ℕ) → start_of doc prefix positions ≡ min (2 ^ 31) (starts prefix)

-- no document from that one on has a start
abbrev pub AreBefore : ℕ → Positions → Type 0
AreBefore doc positions = (prefix : List ℕ) → IfSome (lookup (bytes_eq prefix) positions) (λ p. p.0 < doc)

-- what is recorded, where texts begin, and the document that is indexed
pub record Context : Type 0 where
  pub writer : Writer
  pub positions : Positions
  pub doc : ℕ

-- of these
abbrev pub context : Writer → Positions → ℕ → Context
context writer positions doc = record { writer = writer; positions = positions; doc = doc }

-- these occurrences are recorded, and texts of the document begin there
pub record Holds (schema : Schema) (c : Context) (os : List Occurrence) (starts : Starts) : Type 0 where
  pub stands : Stands schema c.writer os
  pub starts_are : HasStarts c.doc c.positions starts

-- the schema has an indexed field of that number and kind
pub record IsIndexedField (schema : Schema) (field : ℕ) (kind : Kind) : Type 0 where
  pub entry : Entry
  pub fits : field < 2 ^ 32
  pub entry_is : slice_get schema field ≡ Some entry
  pub indexed : is_indexed entry ≡ true
  pub kind_is : entry.kind ≡ kind

-- the document may have more terms
pub record IsReady (schema : Schema) (c : Context) : Type 0 where
  pub made : HasFields schema c.writer
  pub next : c.writer.num_docs ≤ c.doc + 1
  pub fits : c.doc < terminated

-- it may have more terms of a field
abbrev pub CanIndex : Schema → Context → ℕ → Kind → Type 0
CanIndex schema c field kind = IsReady schema c × IsIndexedField schema field kind

-- steps of the document were recorded
pub record Records (schema : Schema) (was now : Context) (ss : List Step) : Type 0 where
  pub holds : (os : List Occurrence) (starts : Starts) → Holds schema was os starts → Holds schema now (os ++ occurrences_at was.doc (run_terms starts ss)) (starts_after starts ss)
  pub within : (os : List Occurrence) (starts : Starts) → Holds schema was os starts → AreStepsWithin starts ss
  pub made : HasFields schema now.writer
  pub doc : now.doc ≡ was.doc
  pub next : now.writer.num_docs ≤ was.doc + 1
  pub before : AreBefore (was.doc + 1) was.positions → AreBefore (was.doc + 1) now.positions

-- the document's count of one of the terms passes 32 bits, when some of them are recorded
pub record CountPasses (os : List Occurrence) (doc : ℕ) (ps : List Placed) : Type 0 where
  pub before : List Placed
  pub after : List Placed
  pub term : List ℕ
  pub split : ps ≡ before ++ after
  pub past : PassesCount doc (places_of term (os ++ occurrences_at doc before))

-- memory was wanting, or a limit would be passed
abbrev pub IsRefusal : Fault → List Occurrence → ℕ → Starts → List Step → Type 0
IsRefusal fault os doc starts ss = (fault ≡ faults.OutOfMemory) ⊎ ((fault ≡ faults.Limit) × ((AreStepsWithin starts ss → ⊥) ⊎ CountPasses os doc (run_terms starts ss)))

-- whatever is recorded, the steps are refused so
abbrev pub Refuses : Schema → Context → List Step → Fault → Type 0
Refuses schema was ss fault = (os : List Occurrence) (starts : Starts) → Holds schema was os starts → IsRefusal fault os was.doc starts ss
