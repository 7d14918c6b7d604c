-- The members of a merge of segments, and what their living documents have.
use Rattle.std.specs.Prelude.{[], ⊤, ◌+◌, ◌∷◌, ◌≡◌, Bool, List, length, ℕ}
use Rattle.std.specs.List.{AllByRecursion}
use Rattle.definitions.specs.Alive as alive
use Rattle.definitions.specs.Analyzers.{Analyzer}
use Rattle.definitions.specs.Merging.{documents_in, flags_of, num_living}
use Rattle.definitions.specs.Schema.{Schema}
use Rattle.segment_reader.specs.Readers.{Reader}
use Rattle.merging.specs.Mappings.{Mapping}
use Rattle.segment.specs.Opened.{IsOpened, StandsFor, index_of, lengths_of, num_docs_of}
use Rattle.segment.specs.declared.segment.Segment.{Segment}
use Rattle.segment.specs.declared.member_segments.MemberSegment.{MemberSegment}

-- a segment, and which of its documents are alive
abbrev pub Member : Type 0
Member = Segment × List Bool

-- the member that is lent
abbrev pub member_of : MemberSegment → Member
member_of m = (m.segment.now, m.alive.now)

-- it was opened under the schema, and has a flag for each of its documents
abbrev pub IsMember : Schema → Member → Type 0
IsMember schema m = IsOpened schema m.0 × (length m.1 ≡ num_docs_of m.0)

abbrev pub AreOpened : Schema → List Member → Type 0
AreOpened schema ms = AllByRecursion (IsMember schema) ms

-- how many documents are alive
abbrev pub living_count : List Member → ℕ
living_count [] = 0
living_count (m ∷ ms) = num_living m.1 + living_count ms

-- ---- lengths

-- the lengths of a member's documents, and which of these are alive
abbrev pub with_lengths : Member → List (ℕ × List ℕ) × List Bool
with_lengths m = (lengths_of m.0, m.1)

-- ---- terms

-- the terms of each member, and the numbers that its documents get, from one on
abbrev pub numbered : ℕ → List Member → List (Reader × Mapping)
numbered base [] = []
numbered base (m ∷ ms) = (index_of m.0, record { base = base; flags = m.1 }) ∷ numbered (base + num_living m.1) ms

-- ---- documents

-- each stands for the documents of a segment, and tells which of these are alive
abbrev pub StandFor : Schema → Analyzer → List Member → List alive.Segment → Type 0
StandFor schema analyze [] [] = ⊤
StandFor schema analyze [] (rows ∷ segments) = ⊥
StandFor schema analyze (m ∷ ms) [] = ⊥
StandFor schema analyze (m ∷ ms) (rows ∷ segments) = StandsFor schema analyze (documents_in rows) m.0 × (m.1 ≡ flags_of rows) × StandFor schema analyze ms segments
