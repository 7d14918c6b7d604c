-- Sinks: what is told of documents whose score is above a threshold.
use Rattle.std.specs.Prelude.{[], ◌&&◌, ◌+◌, ◌∷◌, List, if◌then◌else◌, int_lt, length, nat_lt, pos, ℕ, ℤ}

-- a sink after the documents and scores, in order, that are above its threshold as they come
abbrev pub fed : {S : Type 0} → (S → ℤ) → (S → ℕ × ℕ → S) → S → List (ℕ × ℕ) → S
fed threshold collect sink [] = sink
fed threshold collect sink (p ∷ ps) = fed threshold collect (if int_lt (threshold sink) (pos p.1) then collect sink p else sink) ps

-- blocks, each by the score of its bound, and by its documents with their scores
abbrev pub ScoredBlocks : Type 0
ScoredBlocks = List (ℕ × List (ℕ × ℕ))

-- how many of them have a document, and a bound above the sink's threshold as it stands after all documents before them
abbrev pub blocks_above : {S : Type 0} → (S → ℤ) → (S → ℕ × ℕ → S) → S → ScoredBlocks → ℕ
blocks_above threshold collect sink [] = 0
blocks_above threshold collect sink (block ∷ blocks) = (if nat_lt 0 (length block.1) && int_lt (threshold sink) (pos block.0) then 1 else 0) + blocks_above threshold collect (fed threshold collect sink block.1) blocks

-- how many blocks behind the first may still earn more than the threshold, the first fed whatever its bound is
abbrev pub later_blocks_above : {S : Type 0} → (S → ℤ) → (S → ℕ × ℕ → S) → S → ScoredBlocks → ℕ
later_blocks_above threshold collect sink [] = 0
later_blocks_above threshold collect sink (block ∷ blocks) = blocks_above threshold collect (fed threshold collect sink block.1) blocks
