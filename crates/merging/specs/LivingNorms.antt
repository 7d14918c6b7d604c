-- Members that are segments of documents.
use Rattle.std.specs.Prelude.{[], ⊤, ◌∷◌, ◌≡◌, List}
use Rattle.definitions.specs.Alive.{Segment}
use Rattle.definitions.specs.Analyzers.{Analyzer}
use Rattle.definitions.specs.KeptLengths.{norms_of}
use Rattle.definitions.specs.Merging.{documents_in, flags_of}
use Rattle.definitions.specs.Schema.{Schema}
use Rattle.merging.specs.declared.member_norms.MemberNorms.{MemberNorms}

-- each has the lengths of a segment's documents, and tells which of these are alive
abbrev pub AreOf : Schema → Analyzer → List MemberNorms → List Segment → Type 0
AreOf schema analyze [] [] = ⊤
AreOf schema analyze [] (rows ∷ segments) = ⊥
AreOf schema analyze (m ∷ ms) [] = ⊥
AreOf schema analyze (m ∷ ms) (rows ∷ segments) = (m.norms ≡ norms_of schema analyze (documents_in rows)) × (m.alive.now ≡ flags_of rows) × AreOf schema analyze ms segments
