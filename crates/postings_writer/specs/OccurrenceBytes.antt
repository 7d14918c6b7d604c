-- The occurrences of a term as bytes.
use Rattle.std.specs.Prelude.{[], ◌%◌, ◌++◌, ◌+◌, ◌-◌, ◌<◌, ◌^◌, ◌≡◌, ◌∷◌, List, None, Option, Some, length, suc, zero, ℕ}
use Rattle.std.specs.List.{AllByRecursion}
use Rattle.definitions.specs.Json.{◌>>=◌}
use Rattle.definitions.specs.NumberCodes.{take_vint, vint_bytes}

-- ---- putting

-- how far a document is behind another, in 32 bits
abbrev pub doc_gap : ℕ → ℕ → ℕ
doc_gap before doc = (doc + (2 ^ 32 - before)) % 2 ^ 32

-- occurrences behind one of this document: of each, how far its document is behind the one before it, and its position
abbrev pub occurrence_bytes : ℕ → List (ℕ × ℕ) → List ℕ
occurrence_bytes before [] = []
occurrence_bytes before (p ∷ ps) = vint_bytes (doc_gap before p.0) ++ (vint_bytes p.1 ++ occurrence_bytes p.0 ps)

-- the document of the last occurrence, or this one
abbrev pub last_doc : ℕ → List (ℕ × ℕ) → ℕ
last_doc before [] = before
last_doc before (p ∷ ps) = last_doc p.0 ps

-- ---- taking

-- the occurrence behind one of this document, and what follows it
abbrev pub take_occurrence : ℕ → List ℕ → Option ((ℕ × ℕ) × List ℕ)
take_occurrence before bs = do
  gap ← take_vint bs
  position ← take_vint gap.1
  Some (((before + gap.0) % 2 ^ 32, position.0), position.1)

-- a number of occurrences behind one of this document
abbrev pub occurrences_in : ℕ → ℕ → List ℕ → List (ℕ × ℕ)
occurrences_in zero before bs = []
occurrences_in (suc n) before bs = elim (take_occurrence before bs) [ None ↦ [] | Some p ↦ p.0 ∷ occurrences_in n p.0.0 p.1 ]

-- ---- what a recorder keeps

-- documents and positions have 32 bits
abbrev pub AreOccurrences : List (ℕ × ℕ) → Type 0
AreOccurrences ps = AllByRecursion (λ p. (p.0 < 2 ^ 32) × (p.1 < 2 ^ 32)) ps

-- these are the bytes of occurrences, how many these are, and the document of the last
pub record AreBytesOf (ps : List (ℕ × ℕ)) (bytes : List ℕ) (len doc : ℕ) : Type 0 where
  pub bytes_are : bytes ≡ occurrence_bytes 0 ps
  pub are_occurrences : AreOccurrences ps
  pub long : len ≡ length ps
  pub last : doc ≡ last_doc 0 ps
