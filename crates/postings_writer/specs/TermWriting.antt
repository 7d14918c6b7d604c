-- What a serializer of postings stands for while it writes a term.
use Rattle.std.specs.Prelude.{[], ◌&&◌, ◌*◌, ◌++◌, ◌+◌, ◌/◌, ◌<◌, ◌^◌, ◌∷◌, ◌≡◌, ◌⊎◌, Bool, List, Option, if◌then◌else◌, length, map, min, nat_eq, nat_le, sum, true, false, ℕ}
use Rattle.std.specs.List.{AllByRecursion}
use Rattle.codes.specs.UnpackedBlocks.{listed}
use Rattle.definitions.specs.Blocks.{block_len, least_of}
use Rattle.definitions.specs.NumberCodes.{sized_bytes}
use Rattle.definitions.specs.Postings.{terminated}
use Rattle.definitions.specs.Schema.{IndexRecordOption, has_freq, has_positions}
use Rattle.definitions.specs.declared.fault.Fault.{Fault}
use Rattle.definitions.specs.declared.fault.Fault.TheVariants as faults
use Rattle.layouts.specs.Deltas.{IsAscendingFrom, next_of}
use Rattle.layouts.specs.SkipEntries.{entry_bytes, skip_bytes}
use Rattle.layouts.specs.TermPostings.{SumsFit, all_blocks, full_block, id_of, rest_block, skip_entries, skip_entry}

-- ---- a block that isn't full yet

-- its documents and counts, and the least length id of these documents
pub record Waiting : Type 0 where
  pub docs : List ℕ
  pub counts : List ℕ
  pub least_id : ℕ

abbrev pub nothing_waits : Waiting
nothing_waits = record { docs = []; counts = []; least_id = 0 }

-- one document more, with its count and its length id
abbrev pub joined : Waiting → ℕ → ℕ → ℕ → Waiting
joined w doc count id = record { docs = w.docs ++ doc ∷ []; counts = w.counts ++ count ∷ []; least_id = if nat_eq (length w.docs) 0 then id else min w.least_id id }

-- ---- blocks that were written

-- skip entries and blocks, as bytes
pub record Blocks : Type 0 where
  pub skips : List ℕ
  pub blocks : List ℕ

-- one full block more, behind an offset: the last document before it, or 0
abbrev pub block_added : IndexRecordOption → ℕ → Waiting → Blocks → Blocks
block_added option offset w b = record {
  skips = b.skips ++ entry_bytes (has_freq option) (has_positions option) (record (skip_entry option [] (next_of offset) w.docs w.counts) { least_id = w.least_id });
  blocks = b.blocks ++ full_block option (next_of offset) w.docs w.counts;
}

-- fewer than 128 documents behind them
abbrev pub rest_added : IndexRecordOption → ℕ → Waiting → Blocks → Blocks
rest_added option offset w b = record { skips = b.skips; blocks = b.blocks ++ rest_block option (next_of offset) w.docs w.counts }

-- all bytes of a term; it has skip entries where it has full blocks
abbrev pub term_bytes : Bool → Blocks → List ℕ
term_bytes has_skips b = (if has_skips then sized_bytes b.skips else []) ++ b.blocks

-- ---- a term

-- the least document that may come after these
abbrev pub least_after : ℕ → List ℕ → ℕ
least_after next [] = next
least_after next (doc ∷ docs) = least_after (doc + 1) docs

-- what the field records and what the term does; the length ids, where the field keeps lengths; the last document
-- of the full blocks, or 0; the least document that may come; the block that isn't full, and those that are
pub record Writing : Type 0 where
  pub mode : IndexRecordOption
  pub option : IndexRecordOption
  pub norms : Option (List ℕ)
  pub offset : ℕ
  pub next : ℕ
  pub waiting : Waiting
  pub written : Blocks

-- a term of which nothing is written yet
abbrev pub begun : IndexRecordOption → IndexRecordOption → Option (List ℕ) → Writing
begun mode option norms = record { mode = mode; option = option; norms = norms; offset = 0; next = 0; waiting = nothing_waits; written = record { skips = []; blocks = [] } }

-- the count that is recorded
abbrev pub recorded_count : IndexRecordOption → ℕ → ℕ
recorded_count option count = if has_freq option then count else 1

-- whether the counts of a block of 128 have a sum past 32 bits
abbrev pub passes_sum : List ℕ → Bool
passes_sum counts = nat_eq (length counts) 128 && nat_le (2 ^ 32) (sum counts)

-- memory was wanting, or a limit would be passed
abbrev pub IsRefusal : Fault → Bool → Type 0
IsRefusal fault limit = (fault ≡ faults.OutOfMemory) ⊎ ((fault ≡ faults.Limit) × (limit ≡ true))

-- memory was wanting, or the sum of a block of these counts passes 32 bits
abbrev pub IsSumRefusal : Fault → List ℕ → Type 0
IsSumRefusal fault counts = (fault ≡ faults.OutOfMemory) ⊎ ((fault ≡ faults.Limit) × (SumsFit (length counts / block_len) counts → ⊥))

-- what a serializer always holds: fewer than 128 documents wait, ascending behind the full blocks
pub record IsWriting (norms : Option (List ℕ)) (offset next : ℕ) (waiting : Waiting) : Type 0 where
  pub waiting_fit : length waiting.docs < 128
  pub same : length waiting.counts ≡ length waiting.docs
  pub ascending : IsAscendingFrom (next_of offset) waiting.docs
  pub next_is : next ≡ least_after (next_of offset) waiting.docs
  pub least : waiting.least_id ≡ least_of (map (id_of (listed norms)) waiting.docs)

-- These documents with these counts were written, and a term may have them: whatever follows them, the bytes so
-- far and those of what waits before it are the bytes of all.
pub record AreWritten (w : Writing) (docs counts : List ℕ) : Type 0 where
  pub full : ℕ
  pub same : length counts ≡ length docs
  pub ascending : IsAscendingFrom 0 docs
  pub docs_fit : AllByRecursion (λ doc. doc < terminated) docs
  pub counts_fit : AllByRecursion (λ n. (0 < n) × (n < 2 ^ 32)) counts
  pub alone : has_freq w.option ≡ false → AllByRecursion (λ n. n ≡ 1) counts
  pub sums_are : (more : ℕ) (ns : List ℕ) → SumsFit more (w.waiting.counts ++ ns) → SumsFit (full + more) (counts ++ ns)
  pub sums_left : (more : ℕ) (ns : List ℕ) → SumsFit (full + more) (counts ++ ns) → SumsFit more (w.waiting.counts ++ ns)
  pub long : length docs ≡ 128 * full + length w.waiting.docs
  pub next_is : w.next ≡ least_after 0 docs
  pub skips_are : (more : ℕ) (ds ns : List ℕ) → w.written.skips ++ skip_bytes (has_freq w.option) (has_positions w.option) (skip_entries w.option (listed w.norms) more (next_of w.offset) (w.waiting.docs ++ ds) (w.waiting.counts ++ ns)) ≡ skip_bytes (has_freq w.option) (has_positions w.option) (skip_entries w.option (listed w.norms) (full + more) 0 (docs ++ ds) (counts ++ ns))
  pub blocks_are : (more : ℕ) (ds ns : List ℕ) → w.written.blocks ++ all_blocks w.option more (next_of w.offset) (w.waiting.docs ++ ds) (w.waiting.counts ++ ns) ≡ all_blocks w.option (full + more) 0 (docs ++ ds) (counts ++ ns)
