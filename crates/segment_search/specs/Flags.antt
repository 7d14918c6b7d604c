-- Alive sets of segments: one for each of the first segments.
use Rattle.segment.specs.declared.segment.Segment as code
use Rattle.std.specs.Prelude.{[], ⊤, ◌∷◌, ◌≡◌, Bool, List, length}
use Rattle.definitions.specs.Alive.{Segment}
use Rattle.definitions.specs.Values.{Document}
use Rattle.segment.specs.Opened.{num_docs_of}
use Rattle.segment_definitions.specs.Rows.{flagged}

-- each of the first segments has a flag for each of its documents
abbrev pub AreFlagged : List code.Segment → List (List Bool) → Type 0
AreFlagged segments [] = ⊤
AreFlagged [] (flags ∷ sets) = ⊥
AreFlagged (s ∷ segments) (flags ∷ sets) = (length flags ≡ num_docs_of s) × AreFlagged segments sets

-- the documents of the first segments, each with its flag
abbrev pub flagged_each : List (List Document) → List (List Bool) → List Segment
flagged_each docs [] = []
flagged_each [] (flags ∷ sets) = []
flagged_each (ds ∷ docs) (flags ∷ sets) = flagged ds flags ∷ flagged_each docs sets
