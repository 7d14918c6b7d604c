-- The postings of a term as bytes: blocks of 128 documents with their counts, what stands before the blocks to
-- pass them by, and fewer than 128 documents behind them.
--
-- Documents and counts are two lists of one length, and each count is 1 where none is recorded. `ids` has the
-- length id of each document of the segment, and is empty where the field keeps no length. `next` is the least
-- document that may come: 0 before the first document, and one more than the document before.
use Rattle.std.specs.Prelude.{[], ◌++◌, ◌+◌, ◌-◌, ◌/◌, ◌<◌, ◌^◌, ◌∷◌, ◌≡◌, List, None, Option, Some, drop, false, if◌then◌else◌, length, map, nat_lt, slice_index, slice_index_or, suc, sum, take, true, zero, ℕ}
use Rattle.std.specs.List.{AllByRecursion}
use Rattle.definitions.specs.Blocks.{block_len, least_of}
use Rattle.definitions.specs.NumberCodes.{sized_bytes}
use Rattle.definitions.specs.Postings.{terminated}
use Rattle.definitions.specs.Schema.{IndexRecordOption, has_freq, has_positions}
use Rattle.definitions.specs.Scoring.{greatest_of}
use Rattle.layouts.specs.Deltas.{IsAscendingFrom, deltas}
use Rattle.layouts.specs.PackedBytes.{packed_bytes, width_of}
use Rattle.layouts.specs.SkipEntries.{SkipEntry, count_code, skip_bytes}
use Rattle.layouts.specs.VintBlocks.{numbers_bytes}

-- the length id of a document, and 1 where the field keeps no length
abbrev pub id_of : List ℕ → ℕ → ℕ
id_of ids doc = slice_index_or ids doc 1

-- counts as they stand: each less 1
abbrev pub less_1 : List ℕ → List ℕ
less_1 counts = map (λ n. n - 1) counts

-- the least document that may come after a full block
abbrev pub next_after : List ℕ → ℕ
next_after docs = slice_index docs 127 + 1

-- ---- one block

-- what is told of a full block: its last document, its widths, the sum of its counts, and its bound
abbrev pub skip_entry : IndexRecordOption → List ℕ → ℕ → List ℕ → List ℕ → SkipEntry
skip_entry option ids next docs counts = record {
  last_doc = slice_index docs 127;
  doc_width = width_of (deltas next docs);
  count_width = if has_freq option then width_of (less_1 counts) else 0;
  count_sum = if has_positions option then sum counts else 0;
  least_id = least_of (map (id_of ids) docs);
  greatest_count = count_code (greatest_of counts);
}

-- the bound that an entry tells; none where it says 255
abbrev pub bound_in : SkipEntry → Option (ℕ × ℕ)
bound_in e = if nat_lt 254 e.greatest_count then None else Some (e.least_id, e.greatest_count)

-- a full block: its deltas, and its counts where they are recorded
abbrev pub full_block : IndexRecordOption → ℕ → List ℕ → List ℕ → List ℕ
full_block option next docs counts = packed_bytes (deltas next docs) ++ (if has_freq option then packed_bytes (less_1 counts) else [])

-- fewer than 128 documents: all deltas, and then all counts where they are recorded
abbrev pub rest_block : IndexRecordOption → ℕ → List ℕ → List ℕ → List ℕ
rest_block option next docs counts = numbers_bytes (deltas next docs) ++ (if has_freq option then numbers_bytes (less_1 counts) else [])

-- ---- all blocks

-- the entries of a number of full blocks
abbrev pub skip_entries : IndexRecordOption → List ℕ → ℕ → ℕ → List ℕ → List ℕ → List SkipEntry
skip_entries option ids zero next docs counts = []
skip_entries option ids (suc blocks) next docs counts = skip_entry option ids next (take 128 docs) (take 128 counts) ∷ skip_entries option ids blocks (next_after docs) (drop 128 docs) (drop 128 counts)

-- a number of full blocks, and the rest
abbrev pub all_blocks : IndexRecordOption → ℕ → ℕ → List ℕ → List ℕ → List ℕ
all_blocks option zero next docs counts = rest_block option next docs counts
all_blocks option (suc blocks) next docs counts = full_block option next (take 128 docs) (take 128 counts) ++ all_blocks option blocks (next_after docs) (drop 128 docs) (drop 128 counts)

-- the entries as they stand, behind how many bytes they take; nothing where there is no full block
abbrev pub skip_data : IndexRecordOption → List SkipEntry → List ℕ
skip_data option [] = []
skip_data option (e ∷ es) = sized_bytes (skip_bytes (has_freq option) (has_positions option) (e ∷ es))

-- the postings of a term
unfoldable pub postings_bytes : IndexRecordOption → List ℕ → List ℕ → List ℕ → List ℕ
postings_bytes option ids docs counts = skip_data option (skip_entries option ids (length docs / block_len) 0 docs counts) ++ all_blocks option (length docs / block_len) 0 docs counts

-- ---- what a term may have

-- the counts of each of the first blocks have a sum of 32 bits
abbrev pub SumsFit : ℕ → List ℕ → Type 0
SumsFit zero counts = Unit {0}
SumsFit (suc blocks) counts = (sum (take 128 counts) < 2 ^ 32) × SumsFit blocks (drop 128 counts)

-- ascending documents, each with a count, which is 1 where none is recorded
pub record ArePosted (option : IndexRecordOption) (docs counts : List ℕ) : Type 0 where
  pub same : length counts ≡ length docs
  pub ascending : IsAscendingFrom 0 docs
  pub docs_fit : AllByRecursion (λ doc. doc < terminated) docs
  pub counts_fit : AllByRecursion (λ n. (0 < n) × (n < 2 ^ 32)) counts
  pub alone : has_freq option ≡ false → AllByRecursion (λ n. n ≡ 1) counts
  pub sums_fit : has_positions option ≡ true → SumsFit (length docs / block_len) counts

-- the bytes are the postings of these documents with these counts
pub record AreTermPostings (option : IndexRecordOption) (ids docs counts bytes : List ℕ) : Type 0 where
  pub posted : ArePosted option docs counts
  pub bytes_are : bytes ≡ postings_bytes option ids docs counts
