-- How many blocks of postings a walk over the documents of a term decodes.
use Rattle.std.specs.Prelude.{[], ◌+◌, ◌∷◌, List, ℕ, ℤ}
use Rattle.definitions.specs.Sinks.{ScoredBlocks, later_blocks_above}

-- of a term's documents with their scores, in blocks too: none if there is no document; else the first, and each later
-- one whose bound is above the sink's threshold as it stands after all documents before it
abbrev pub decoded_for : {S : Type 0} → (S → ℤ) → (S → ℕ × ℕ → S) → S → List (ℕ × ℕ) → ScoredBlocks → ℕ
decoded_for threshold collect sink [] blocks = 0
decoded_for threshold collect sink (p ∷ ps) blocks = 1 + later_blocks_above threshold collect sink blocks
