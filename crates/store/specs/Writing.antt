-- What a writer of a store stands for, and what a document makes of it.
use Rattle.std.specs.Prelude.{[], ◌++◌, ◌+◌, ◌-◌, ◌<◌, ◌^◌, ◌∷◌, ◌≡◌, ◌≤◌, ◌||◌, All, Bool, List, drop, if◌then◌else◌, length, map, nat_le, nat_lt, slice_range, take, ℕ, ◌⊎◌, true, false}
use Rattle.std.specs.List.{concat}
use Rattle.definitions.specs.declared.fault.Fault.{Fault}
use Rattle.definitions.specs.declared.fault.Fault.TheVariants as faults
use Rattle.layouts.specs.Stores.{Block, Hold, block_bytes, checkpoints, data_of, max_docs, starts}
use Rattle.layouts.specs.declared.checkpoint.Checkpoint.{Checkpoint}
use Rattle.store.specs.declared.writer_fields.Parts.{Parts}

-- the blocks that are closed, the documents of the one that isn't, and the size over which a block is closed
pub record Written : Type 0 where
  pub blocks : List Block
  pub pending : List (List ℕ)
  pub block_size : ℕ

-- what was written, of blocks that are closed and of documents that wait for theirs
abbrev pub written : List Block → List (List ℕ) → ℕ → Written
written blocks pending block_size = record { blocks = blocks; pending = pending; block_size = block_size }

-- the block of some documents
abbrev pub closed : List (List ℕ) → Block
closed docs = record { count = length docs; bytes = block_bytes docs }

-- how many documents blocks hold
abbrev pub count_of : List Block → ℕ
count_of [] = 0
count_of (b ∷ bs) = b.count + count_of bs

-- how many documents a writer holds
abbrev pub docs_of : Written → ℕ
docs_of w = count_of w.blocks + length w.pending

-- the blocks with the pending documents as the last one, where there are any
abbrev pub blocks_of : Written → List Block
blocks_of w = elim w.pending [ [] ↦ w.blocks | d ∷ ds ↦ w.blocks ++ closed w.pending ∷ [] ]

-- the pending documents and another one; where their bytes come over the block size they are a block
abbrev pub stored : Written → List ℕ → Written
stored w doc = if nat_lt w.block_size (length (concat (w.pending ++ doc ∷ []))) then written (w.blocks ++ closed (w.pending ++ doc ∷ []) ∷ []) [] w.block_size else written w.blocks (w.pending ++ doc ∷ []) w.block_size

-- a writer stands for a list of slots: those of its blocks, and then the pending documents
abbrev pub HoldsSlots : Written → List (List ℕ) → Type 0
HoldsSlots w slots = (first : List (List ℕ)) × Hold w.blocks first × (slots ≡ first ++ w.pending)

-- whether a document of `len` bytes would pass a limit
abbrev pub passes_limit : Written → ℕ → Bool
passes_limit w len = nat_le (2 ^ 32) (w.block_size + len + 8) || nat_le max_docs (docs_of w)

-- memory was wanting, or a limit would be passed
abbrev pub IsLimit : Fault → Bool → Type 0
IsLimit fault limit = ((fault ≡ faults.OutOfMemory) × (limit ≡ false)) ⊎ ((fault ≡ faults.Limit) × (limit ≡ true))

-- ---- the fields of a writer

-- the block at a checkpoint
abbrev pub block_in : List ℕ → Checkpoint → Block
block_in bytes c = record { count = c.doc_range.end - c.doc_range.start; bytes = slice_range bytes c.byte_range.start c.byte_range.end }

-- the blocks at their checkpoints
abbrev pub blocks_in : List ℕ → List Checkpoint → List Block
blocks_in bytes cs = map (block_in bytes) cs

-- documents that start at these offsets, the first at that of the bytes
abbrev pub cut : List ℕ → List ℕ → List (List ℕ)
cut [] bs = []
cut (s ∷ []) bs = bs ∷ []
cut (s ∷ t ∷ ss) bs = take (t - s) bs ∷ cut (t ∷ ss) (drop (t - s) bs)

-- bytes, checkpoints and starts stand for these blocks and pending documents
pub record Stands (out : List ℕ) (cs : List Checkpoint) (ss : List ℕ) (first_doc first_byte : ℕ) (blocks : List Block) (pending : List (List ℕ)) : Type 0 where
  pub out_is : out ≡ data_of blocks ++ concat pending
  pub checks : cs ≡ checkpoints 0 0 blocks
  pub starts_are : ss ≡ starts 0 pending
  pub doc : first_doc ≡ count_of blocks
  pub byte : first_byte ≡ length (data_of blocks)

-- the fields of a writer do
abbrev pub Stand : Parts → List Block → List (List ℕ) → Type 0
Stand w blocks pending = Stands w.out.items w.checkpoints.items w.starts.items w.first_doc w.first_byte blocks pending

-- blocks and pending documents of a writer
pub record AreWritten (block_size : ℕ) (blocks : List Block) (pending : List (List ℕ)) : Type 0 where
  pub nonempty : All (λ (b : Block). 0 < b.count) blocks
  pub docs : count_of blocks + length pending ≤ max_docs
  pub size : length (concat pending) ≤ block_size
  pub fits : 0 < length pending → block_size + 8 < 2 ^ 32

-- the blocks and the pending documents that the fields stand for
abbrev pub closed_in : Parts → List Block
closed_in w = blocks_in w.out.items w.checkpoints.items

abbrev pub pending_in : Parts → List (List ℕ)
pending_in w = cut w.starts.items (drop w.first_byte w.out.items)
