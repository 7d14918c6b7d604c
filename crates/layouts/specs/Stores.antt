-- Stores: the documents' bytes in blocks, a skip index with a checkpoint for each block, and a footer.
use Rattle.std.specs.Prelude.{[], ◌++◌, ◌+◌, ◌-◌, ◌<◌, ◌^◌, ◌∷◌, ◌≡◌, ◌≤◌, All, List, false, flat_map, length, map, nat_le, replicate, slice_index, suc, sum_by, true, zero, ℕ}
use Rattle.std.specs.List.{concat}
use Rattle.std.specs.declared.ops.Range.{Range}
use Rattle.definitions.specs.NumberCodes.{u32_bytes, u64_bytes, vint_bytes}
use Rattle.definitions.specs.State.{pieces}
use Rattle.layouts.specs.declared.checkpoint.Checkpoint.{Checkpoint}

-- ---- blocks

-- where each document starts, the first at a given offset
abbrev pub starts : ℕ → List (List ℕ) → List ℕ
starts at [] = []
starts at (doc ∷ docs) = at ∷ starts (at + length doc) docs

-- the documents' bytes one after the other, the start of each, and how many they are
abbrev pub block_bytes : List (List ℕ) → List ℕ
block_bytes docs = concat docs ++ flat_map u32_bytes (starts 0 docs) ++ u32_bytes (length docs)

-- the bytes are the block of these documents
pub record IsBlock (docs : List (List ℕ)) (bytes : List ℕ) : Type 0 where
  pub bytes_are : bytes ≡ block_bytes docs
  pub starts_fit : (i : ℕ) → slice_index (starts 0 docs) i < 2 ^ 32
  pub count_fits : length docs < 2 ^ 32

-- a block as a store keeps it: how many documents it holds, and its bytes
pub record Block : Type 0 where
  pub count : ℕ
  pub bytes : List ℕ

-- ---- checkpoints

-- where each block stands, the first at a given document and byte
abbrev pub checkpoints : ℕ → ℕ → List Block → List Checkpoint
checkpoints doc byte [] = []
checkpoints doc byte (b ∷ bs) = record { doc_range = record { start = doc; end = doc + b.count }; byte_range = record { start = byte; end = byte + length b.bytes } } ∷ checkpoints (doc + b.count) (byte + length b.bytes) bs

-- they begin at a document and a byte, and each begins where the one before ends
abbrev pub Adjoin : ℕ → ℕ → List Checkpoint → Type 0
Adjoin doc byte [] = Unit {0}
Adjoin doc byte (c ∷ cs) = (c.doc_range.start ≡ doc) × (c.byte_range.start ≡ byte) × (doc ≤ c.doc_range.end) × (byte ≤ c.byte_range.end) × Adjoin c.doc_range.end c.byte_range.end cs

-- the document at which the last ends; without one a given one
abbrev pub doc_end : ℕ → List Checkpoint → ℕ
doc_end doc [] = doc
doc_end doc (c ∷ cs) = doc_end c.doc_range.end cs

-- the byte at which the last ends; without one a given one
abbrev pub byte_end : ℕ → List Checkpoint → ℕ
byte_end byte [] = byte
byte_end byte (c ∷ cs) = byte_end c.byte_range.end cs

-- it holds a document
abbrev pub HasDocument : Checkpoint → Type 0
HasDocument c = c.doc_range.start < c.doc_range.end

-- the greatest number of documents of a store
abbrev pub max_docs : ℕ
max_docs = 2147483647

-- the checkpoints of a skip index: they adjoin from the first document and the first byte
pub record AreCheckpoints (cs : List Checkpoint) : Type 0 where
  pub adjoin : Adjoin 0 0 cs
  pub nonempty : All HasDocument cs
  pub docs : doc_end 0 cs ≤ max_docs
  pub bytes : byte_end 0 cs < 2 ^ 64

-- ---- the skip index

-- how many checkpoints a group has
abbrev pub group_len : ℕ
group_len = 8

-- how many documents and how many bytes
abbrev pub extent_bytes : Checkpoint → List ℕ
extent_bytes c = vint_bytes (c.doc_range.end - c.doc_range.start) ++ vint_bytes (c.byte_range.end - c.byte_range.start)

-- how many checkpoints, the first document and the first byte, and each checkpoint's extent
abbrev pub group_bytes : List Checkpoint → List ℕ
group_bytes [] = vint_bytes 0
group_bytes (c ∷ cs) = vint_bytes (length (c ∷ cs)) ++ vint_bytes c.doc_range.start ++ vint_bytes c.byte_range.start ++ flat_map extent_bytes (c ∷ cs)

-- the documents of a group: from the first one's start to the last one's end
abbrev pub group_docs : List Checkpoint → Range ℕ
group_docs [] = record { start = 0; end = 0 }
group_docs (c ∷ cs) = record { start = c.doc_range.start; end = doc_end c.doc_range.end cs }

-- a checkpoint for each group, the first at a given byte: the group's documents, and the bytes where it stands
abbrev pub group_checkpoints : ℕ → List (List Checkpoint) → List Checkpoint
group_checkpoints at [] = []
group_checkpoints at (g ∷ gs) = record { doc_range = group_docs g; byte_range = record { start = at; end = at + length (group_bytes g) } } ∷ group_checkpoints (at + length (group_bytes g)) gs

-- the layer above: where each group of a layer stands in it
abbrev pub above : List Checkpoint → List Checkpoint
above cs = group_checkpoints 0 (pieces group_len cs)

-- the layers from the top to the lowest, which is given; the top has one group. The fuel is at least the number of checkpoints.
abbrev pub layers_within : ℕ → List Checkpoint → List (List Checkpoint)
layers_within zero cs = []
layers_within (suc fuel) [] = []
layers_within (suc fuel) (c ∷ cs) = elim (nat_le (length (c ∷ cs)) group_len) [ true ↦ (c ∷ cs) ∷ [] | false ↦ layers_within fuel (above (c ∷ cs)) ++ (c ∷ cs) ∷ [] ]

-- the layers over the lowest one; without a checkpoint there is none
abbrev pub layers : List Checkpoint → List (List Checkpoint)
layers cs = layers_within (length cs) cs

-- a layer's groups
abbrev pub layer_bytes : List Checkpoint → List ℕ
layer_bytes cs = flat_map group_bytes (pieces group_len cs)

-- how many layers, the length of each, and the layers
abbrev pub index_of : List (List ℕ) → List ℕ
index_of spelled = vint_bytes (length spelled) ++ flat_map (λ layer. vint_bytes (length layer)) spelled ++ concat spelled

-- a skip index over its lowest layer
abbrev pub skip_index_bytes : List Checkpoint → List ℕ
skip_index_bytes cs = index_of (map layer_bytes (layers cs))

-- the bytes are the skip index of these checkpoints
abbrev pub IsSkipIndex : List Checkpoint → List ℕ → Type 0
IsSkipIndex cs bytes = AreCheckpoints cs × (bytes ≡ skip_index_bytes cs)

-- ---- the store

-- the version, the start of the skip index, the kind 0 of blocks that aren't compressed, and fifteen zero bytes
abbrev pub footer_bytes : ℕ → List ℕ
footer_bytes at = u32_bytes 2 ++ u64_bytes at ++ (0 ∷ replicate 15 0)

-- the blocks one after the other
abbrev pub data_of : List Block → List ℕ
data_of blocks = flat_map (λ b. b.bytes) blocks

-- the blocks, the skip index and the footer
abbrev pub store_bytes : List Block → List ℕ
store_bytes blocks = data_of blocks ++ skip_index_bytes (checkpoints 0 0 blocks) ++ footer_bytes (length (data_of blocks))

-- blocks that a store may have: each holds a document, and together they hold no more than a store may
pub record AreBlocks (blocks : List Block) : Type 0 where
  pub nonempty : All (λ (b : Block). 0 < b.count) blocks
  pub docs : sum_by (λ (b : Block). b.count) blocks ≤ max_docs

-- the blocks hold these documents in order
abbrev pub Hold : List Block → List (List ℕ) → Type 0
Hold [] slots = slots ≡ []
Hold (b ∷ bs) slots = (docs : List (List ℕ)) × (rest : List (List ℕ)) × (slots ≡ docs ++ rest) × (length docs ≡ b.count) × IsBlock docs b.bytes × Hold bs rest

-- the bytes are a store of these documents, in whatever blocks they stand
abbrev pub IsStore : List (List ℕ) → List ℕ → Type 0
IsStore slots bytes = (blocks : List Block) × AreBlocks blocks × Hold blocks slots × (bytes ≡ store_bytes blocks)
