-- What a sink comes to that takes documents in blocks.
use Rattle.std.specs.List.{concat}
use Rattle.std.specs.Prelude.{[], ⊤, ◌∷◌, ◌≡◌, ◌≤◌, List, length, ℕ}

-- each list has from 1 to 64 documents
abbrev pub AreBlocks : List (List ℕ) → Type 0
AreBlocks [] = ⊤
AreBlocks (b ∷ bs) = (1 ≤ length b) × (length b ≤ 64) × AreBlocks bs

-- a sink after the blocks, in order
abbrev pub fed_blocks : {S : Type 0} → (S → List ℕ → S) → S → List (List ℕ) → S
fed_blocks taken sink [] = sink
fed_blocks taken sink (b ∷ bs) = fed_blocks taken (taken sink b) bs

-- a sink has taken the documents in some blocks that follow one another: each document once, in order
pub record IsFedInBlocks {S : Type 0} (taken : S → List ℕ → S) (before : S) (docs : List ℕ) (after : S) : Type 0 where
  pub blocks : List (List ℕ)
  pub are_blocks : AreBlocks blocks
  pub all : concat blocks ≡ docs
  pub fed : fed_blocks taken before blocks ≡ after
