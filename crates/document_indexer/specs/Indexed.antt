-- What an indexer stands for.
use Rattle.std.specs.Prelude.{◌<◌, ◌^◌, ◌≡◌, ◌≤◌, ◌⊎◌, List, flat_map, length, map, ℕ}
use Rattle.std.specs.List.{enumerate_from}
use Rattle.definitions.specs.Analyzers.{Analyzer}
use Rattle.definitions.specs.Postings.{terminated}
use Rattle.definitions.specs.Recorded.{count_of, occurrences}
use Rattle.definitions.specs.Schema.{Schema}
use Rattle.definitions.specs.Values.{Document}
use Rattle.definitions.specs.declared.fault.Fault.{Fault}
use Rattle.definitions.specs.declared.fault.Fault.TheVariants as faults
use Rattle.postings_writer.specs.Occurrences.{Occurrence, places_of}
use Rattle.postings_writer.specs.Writers.{Stands, Writer}
use Rattle.document_indexer.specs.Contexts.{AreBefore, Context}
use Rattle.document_indexer.specs.Runs.{AreStepsWithin, no_starts}
use Rattle.document_indexer.specs.Steps.{steps_of}

-- a document's positions of a term
abbrev pub doc_positions : Schema → Analyzer → List ℕ → ℕ × Document → List (ℕ × ℕ)
doc_positions schema analyze t (n, doc) = map (λ position. (n, position)) (occurrences schema analyze t doc)

-- all documents' positions of a term
abbrev pub positions_in : Schema → Analyzer → List ℕ → List Document → List (ℕ × ℕ)
positions_in schema analyze t docs = flat_map (doc_positions schema analyze t) (enumerate_from 0 docs)

-- occurrences of these documents' terms
abbrev pub AreOccurrences : Schema → Analyzer → List Document → List Occurrence → Type 0
AreOccurrences schema analyze docs os = (t : List ℕ) → places_of t os ≡ positions_in schema analyze t docs

-- the writer holds what these documents give
pub record HasWritten (schema : Schema) (analyze : Analyzer) (w : Writer) (docs : List Document) : Type 0 where
  pub os : List Occurrence
  pub stands : Stands schema w os
  pub occurrences_are : AreOccurrences schema analyze docs os
  pub num_docs_within : w.num_docs ≤ length docs

-- these documents are recorded, and the next one is to be
pub record HasRecorded (schema : Schema) (analyze : Analyzer) (c : Context) (docs : List Document) : Type 0 where
  pub written : HasWritten schema analyze c.writer docs
  pub count : c.doc ≡ length docs
  pub before : AreBefore c.doc c.positions

-- a document has no term more often than 32 bits tell
abbrev pub IsCounted : Schema → Analyzer → Document → Type 0
IsCounted schema analyze doc = (t : List ℕ) → length (occurrences schema analyze t doc) < 2 ^ 32

-- a limit that one document more would pass: the number of documents, or by itself the greatest position or a count
abbrev pub PassesLimit : Schema → Analyzer → List Document → Document → Type 0
PassesLimit schema analyze docs doc = (terminated ≤ length docs) ⊎ (AreStepsWithin no_starts (steps_of schema analyze doc) → ⊥) ⊎ (IsCounted schema analyze doc → ⊥)

-- no count of a document passes 32 bits
abbrev pub AreCountsWithin : Schema → Analyzer → Document → Type 0
AreCountsWithin schema analyze doc = (t : List ℕ) → count_of schema analyze t doc < 2 ^ 32

-- with one document more neither the number of documents nor the greatest position is passed, nor a count
abbrev pub IsWithinLimits : Schema → Analyzer → List Document → Document → Type 0
IsWithinLimits schema analyze docs doc = (length docs < terminated) × AreStepsWithin no_starts (steps_of schema analyze doc) × AreCountsWithin schema analyze doc

-- memory was wanting, or a limit would be passed
abbrev pub IsAddRefusal : Fault → Schema → Analyzer → List Document → Document → Type 0
IsAddRefusal fault schema analyze docs doc = (fault ≡ faults.OutOfMemory) ⊎ ((fault ≡ faults.Limit) × PassesLimit schema analyze docs doc)
