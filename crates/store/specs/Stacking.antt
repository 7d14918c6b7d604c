-- How a store's blocks follow those of a writer.
use Rattle.std.specs.Prelude.{[], ◌++◌, ◌+◌, ◌<◌, ◌^◌, ◌≡◌, ◌≤◌, Bool, List, length, nat_lt, take, ℕ}
use Rattle.layouts.specs.Stores.{Block, checkpoints, data_of, max_docs}
use Rattle.layouts.specs.declared.checkpoint.Checkpoint.{Checkpoint}
use Rattle.store.specs.Writing.{Written, blocks_of, count_of, docs_of, written}
use Rattle.store.specs.declared.writer_fields.Parts.{Parts}

-- the pending documents become a block, and the blocks follow it
abbrev pub stacked : Written → List Block → Written
stacked w blocks = written (blocks_of w ++ blocks) [] w.block_size

-- whether a writer would have too many documents with these blocks
abbrev pub passes_docs : Written → List Block → Bool
passes_docs w blocks = nat_lt max_docs (docs_of w + count_of blocks)

-- ---- the fields of a writer

-- a number of documents and bytes further on
abbrev pub shifted : ℕ → ℕ → Checkpoint → Checkpoint
shifted docs bytes c = record { doc_range = record { start = docs + c.doc_range.start; end = docs + c.doc_range.end }; byte_range = record { start = bytes + c.byte_range.start; end = bytes + c.byte_range.end } }

-- its numbers stay in 32 and 64 bits, and don't fall
pub record FitsShifted (docs bytes : ℕ) (c : Checkpoint) : Type 0 where
  pub doc_order : c.doc_range.start ≤ c.doc_range.end
  pub byte_order : c.byte_range.start ≤ c.byte_range.end
  pub docs_fit : docs + c.doc_range.end < 2 ^ 32
  pub bytes_fit : bytes + c.byte_range.end < 2 ^ 64

-- bytes and checkpoints are those of blocks, which end at a document and a byte
pub record IsShut (w : Parts) (blocks : List Block) (ends : ℕ × ℕ) : Type 0 where
  pub out_is : w.out.items ≡ data_of blocks
  pub checks : w.checkpoints.items ≡ checkpoints 0 0 blocks
  pub docs : ends.0 ≡ count_of blocks
  pub bytes : ends.1 ≡ length (data_of blocks)

-- what stood there stands at the front
pub record IsKeptIn (old new : Parts) : Type 0 where
  pub out : take (length old.out.items) new.out.items ≡ old.out.items
  pub checks : take (length old.checkpoints.items) new.checkpoints.items ≡ old.checkpoints.items
  pub starts : new.starts.items ≡ old.starts.items
  pub doc : new.first_doc ≡ old.first_doc
  pub byte : new.first_byte ≡ old.first_byte
