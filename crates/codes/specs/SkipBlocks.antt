-- How skip entries are taken, and what a reader of them stands for.
use Rattle.std.specs.Prelude.{[], ◌%◌, ◌*◌, ◌+◌, ◌<◌, ◌^◌, ◌∷◌, Bool, IsSome, List, None, Option, Some, drop, false, if◌then◌else◌, nat_lt, suc, take, zero, ℕ}
use Rattle.std.specs.List.{prefix_len}
use Rattle.std.specs.Option.{option_map_or}
use Rattle.codes.specs.declared.skip_reader.Entry.{Entry}
use Rattle.codes.specs.declared.skip_reader.BlockInfo.{BlockInfo}
use Rattle.codes.specs.declared.skip_reader.BlockInfo.TheVariants.{BitPacked, VInt}
use Rattle.definitions.specs.Json.{◌>>=◌}
use Rattle.definitions.specs.NumberCodes.{take_u32}
use Rattle.definitions.specs.Postings.{terminated}
use Rattle.layouts.specs.SkipEntries.{SkipEntry, are_entries}

-- ---- taking

-- a byte
abbrev pub take_byte : List ℕ → Option (ℕ × List ℕ)
take_byte [] = None
take_byte (b ∷ bs) = Some (b, bs)

-- a number that is 0 where it isn't recorded
abbrev pub take_where : Bool → (List ℕ → Option (ℕ × List ℕ)) → List ℕ → Option (ℕ × List ℕ)
take_where recorded taken bs = if recorded then taken bs else Some (0, bs)

-- an entry
abbrev pub take_entry : Bool → Bool → List ℕ → Option (SkipEntry × List ℕ)
take_entry counts positions bs = do
  last ← take_u32 bs
  doc ← take_byte last.1
  count ← take_where counts take_byte doc.1
  sum ← take_where positions take_u32 count.1
  least ← take_byte sum.1
  greatest ← take_byte least.1
  Some (record { last_doc = last.0; doc_width = doc.0; count_width = count.0; count_sum = sum.0; least_id = least.0; greatest_count = greatest.0 }, greatest.1)

-- a number of entries up to the end
abbrev pub take_entries : Bool → Bool → ℕ → List ℕ → Option (List SkipEntry)
take_entries counts positions zero [] = Some []
take_entries counts positions zero (b ∷ bs) = None
take_entries counts positions (suc n) bs = do
  p ← take_entry counts positions bs
  es ← take_entries counts positions n p.1
  Some (p.0 ∷ es)

-- whether they are `n` entries, each in its ranges
abbrev pub are_skips : Bool → Bool → ℕ → ℕ → List ℕ → Bool
are_skips counts positions n least bs = option_map_or (are_entries counts positions least) (take_entries counts positions n bs) false

-- entries that may be none
abbrev pub entries_of : Option (List SkipEntry) → List SkipEntry
entries_of None = []
entries_of (Some es) = es

-- bytes of an entry for each of `blocks`, and offsets that leave room for their blocks
pub record HasEntries (counts positions : Bool) (blocks : ℕ) (bytes : List ℕ) (byte_offset position_offset : ℕ) : Type 0 where
  pub entries_stand : IsSome (take_entries counts positions blocks bytes)
  pub bytes_fit : byte_offset + 8192 * blocks < 2 ^ 62
  pub positions_fit : position_offset + 2 ^ 32 * blocks < 2 ^ 62

-- ---- standing

-- a reader: what is recorded, the entries from its block on, how many documents stand behind the full blocks,
-- and where its block begins in bytes and in positions
pub record Skips : Type 0 where
  pub counts : Bool
  pub positions : Bool
  pub left : List SkipEntry
  pub rest : ℕ
  pub byte_offset : ℕ
  pub position_offset : ℕ

-- how many bytes a block takes
abbrev pub block_size : SkipEntry → ℕ
block_size e = 16 * e.doc_width + 16 * e.count_width

-- at the first block of `doc_freq` documents
abbrev pub begun : Bool → Bool → ℕ → List SkipEntry → Skips
begun counts positions doc_freq entries = record { counts = counts; positions = positions; left = entries; rest = doc_freq % 128; byte_offset = 0; position_offset = 0 }

-- behind the rest
abbrev pub ended : Skips → Skips
ended s = record { counts = s.counts; positions = s.positions; left = s.left; rest = 0; byte_offset = s.byte_offset; position_offset = s.position_offset }

-- how many bytes blocks take, and how many positions they have
abbrev pub blocks_len : List SkipEntry → ℕ
blocks_len [] = 0
blocks_len (e ∷ es) = block_size e + blocks_len es

abbrev pub counts_len : List SkipEntry → ℕ
counts_len [] = 0
counts_len (e ∷ es) = e.count_sum + counts_len es

-- `n` blocks on
abbrev pub passed : ℕ → Skips → Skips
passed n s = record {
  counts = s.counts;
  positions = s.positions;
  left = drop n s.left;
  rest = s.rest;
  byte_offset = s.byte_offset + blocks_len (take n s.left);
  position_offset = s.position_offset + counts_len (take n s.left);
}

-- how many blocks end before a document
abbrev pub blocks_before : ℕ → Skips → ℕ
blocks_before target s = prefix_len (λ (e : SkipEntry). nat_lt e.last_doc target) s.left

-- the last document of the block; of the rest none is known
abbrev pub last_doc : List SkipEntry → ℕ
last_doc [] = terminated
last_doc (e ∷ es) = e.last_doc

-- what the block has, and of the rest how many documents
abbrev pub info_of : List SkipEntry → ℕ → BlockInfo
info_of [] rest = VInt rest
info_of (e ∷ es) rest = BitPacked e.doc_width e.count_width e.count_sum e.least_id e.greatest_count

-- an entry as a reader has it
abbrev pub entry_of : Entry → SkipEntry
entry_of e = record { last_doc = e.last_doc; doc_width = e.doc_width; count_width = e.count_width; count_sum = e.count_sum; least_id = e.least_id; greatest_count = e.greatest_count }
