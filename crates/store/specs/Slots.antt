-- What a reader of a store stands for: blocks, and the documents' bytes that stand in them.
use Rattle.std.specs.Prelude.{[], ◌++◌, ◌-◌, ◌<◌, ◌^◌, ◌∷◌, ◌≡◌, ◌≤◌, ◌⊎◌, Contains, List, None, Option, Some, if◌then◌else◌, length, nat_lt, slice_get, slice_index_or, take, ℕ}
use Rattle.std.specs.List.{position_or_len}
use Rattle.definitions.specs.declared.fault.Fault.{Fault}
use Rattle.definitions.specs.declared.fault.Fault.TheVariants as faults
use Rattle.layouts.specs.Stores.{AreBlocks, AreCheckpoints, Block, IsBlock, byte_end, checkpoints, footer_bytes, skip_index_bytes, store_bytes}
use Rattle.layouts.specs.declared.checkpoint.Checkpoint.{Checkpoint}
use Rattle.store.specs.declared.block_cache.BlockCache.{BlockCache}
use Rattle.store.specs.Caches.{HasRoom, Kept, entries_of}
use Rattle.store.specs.Reading.{IsBlockOf}
use Rattle.store.specs.SkipIndexes.{passes}
use Rattle.store.specs.Writing.{block_in, count_of}

-- the blocks of a store, those that are kept open, and the one in which an iteration stands
pub record Reader : Type 0 where
  pub blocks : List Block
  pub kept : Kept
  pub current : Option ℕ

abbrev pub reader : List Block → Kept → Option ℕ → Reader
reader blocks kept current = record { blocks = blocks; kept = kept; current = current }

-- the bytes are no store
abbrev pub IsNoStore : List ℕ → Type 0
IsNoStore bytes = (blocks : List Block) → AreBlocks blocks → bytes ≡ store_bytes blocks → ⊥

-- these are the bytes of a block, and it is one
abbrev pub IsOpenBlock : Block → List ℕ → Type 0
IsOpenBlock b bytes = (bytes ≡ b.bytes) × IsBlockOf b.count b.bytes

-- its bytes are no block of its count of documents
abbrev pub IsBadBlock : Block → Type 0
IsBadBlock b = IsBlockOf b.count b.bytes → ⊥

-- the block in which a document stands, and the document's index in it
abbrev pub block_and_index : List Block → ℕ → Option (Block × ℕ)
block_and_index [] doc = None
block_and_index (b ∷ bs) doc = if nat_lt doc b.count then Some (b, doc) else block_and_index bs (doc - b.count)

-- a block is one, and the document at the index in it has these bytes
abbrev pub IsSlot : Block × ℕ → List ℕ → Type 0
IsSlot p slot = IsBlockOf p.0.count p.0.bytes × ((docs : List (List ℕ)) → length docs ≡ p.0.count → IsBlock docs p.0.bytes → slot ≡ slice_index_or docs p.1 [])

-- a document's bytes are these
abbrev pub HasSlot : List Block → ℕ → List ℕ → Type 0
HasSlot blocks doc slot = (p : Block × ℕ) × (block_and_index blocks doc ≡ Some p) × IsSlot p slot

-- a document stands in a block that is none
abbrev pub IsBadSlot : List Block → ℕ → Type 0
IsBadSlot blocks doc = (p : Block × ℕ) × (block_and_index blocks doc ≡ Some p) × IsBadBlock p.0

-- there is no such document, memory was wanting for one, or its block is damaged
abbrev pub IsSlotFault : List Block → ℕ → Fault → Type 0
IsSlotFault blocks doc fault = ((fault ≡ faults.OutOfMemory) × (doc < count_of blocks)) ⊎ (((fault ≡ faults.InvalidArgument) × (count_of blocks ≤ doc)) ⊎ ((fault ≡ faults.Damaged None) × IsBadSlot blocks doc))

-- memory was wanting for a document, or there is none of this number among `count`
abbrev pub IsPast : Fault → ℕ → ℕ → Type 0
IsPast fault doc count = ((fault ≡ faults.OutOfMemory) × (doc < count)) ⊎ ((fault ≡ faults.InvalidArgument) × (count ≤ doc))

-- how many blocks end at or before a document
abbrev pub block_number : List Block → ℕ → ℕ
block_number blocks doc = position_or_len (passes doc) (checkpoints 0 0 blocks)

-- ---- the fields of a reader

-- what is kept is the block at its checkpoint
abbrev pub IsKeptBlock : List ℕ → List Checkpoint → ℕ × List ℕ → Type 0
IsKeptBlock bytes cs e = (c : Checkpoint) × (slice_get cs e.0 ≡ Some c) × IsOpenBlock (block_in bytes c) e.1

-- checkpoints that cover the bytes, and a cache of their blocks
pub record IsReader (bytes : List ℕ) (cs : List Checkpoint) (cache : BlockCache) : Type 0 where
  pub checks : AreCheckpoints cs
  pub covers : byte_end 0 cs ≡ length bytes
  pub kept : (e : ℕ × List ℕ) → Contains (entries_of cache) e → IsKeptBlock bytes cs e
  pub room : HasRoom cache

-- a file with a skip index that starts at a byte, and covers the bytes before it
pub record IsFile (at : ℕ) (cs : List Checkpoint) (bytes : List ℕ) : Type 0 where
  pub checks : AreCheckpoints cs
  pub covers : byte_end 0 cs ≡ at
  pub within : at ≤ length bytes
  pub fits : length bytes < 2 ^ 64
  pub bytes_are : bytes ≡ take at bytes ++ skip_index_bytes cs ++ footer_bytes at
