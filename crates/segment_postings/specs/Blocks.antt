-- What bytes have that are the blocks of a term's postings.
use Rattle.std.specs.Prelude.{[], ◌*◌, ◌+◌, ◌<◌, ◌^◌, ◌≡◌, ◌∷◌, List, Some, drop, false, if◌then◌else◌, length, map, slice_index, sum, take, true, ℕ}
use Rattle.std.specs.List.{AllByRecursion}
use Rattle.segment_postings.specs.declared.entry_check.Entry.{Entry}
use Rattle.definitions.specs.Schema.{IndexRecordOption, has_freq, has_positions}
use Rattle.definitions.specs.Scoring.{greatest_of}
use Rattle.definitions.specs.Blocks.{least_of}
use Rattle.layouts.specs.Deltas.{IsAscendingFrom, deltas, documents}
use Rattle.layouts.specs.PackedBytes.{packed_bytes, width_of}
use Rattle.layouts.specs.SkipEntries.{SkipEntry, count_code}
use Rattle.layouts.specs.TermPostings.{SumsFit, all_blocks, id_of, less_1, skip_entries}
use Rattle.layouts.specs.VintBlocks.{numbers_bytes, take_numbers}

-- ---- lists

-- documents of a segment of `num_docs`, ascending from a least one on
pub record AreDocs (num_docs next : ℕ) (docs : List ℕ) : Type 0 where
  pub ascending : IsAscendingFrom next docs
  pub within : AllByRecursion (λ doc. doc < num_docs) docs

-- counts, each 1 where none is recorded
pub record AreCounts (option : IndexRecordOption) (counts : List ℕ) : Type 0 where
  pub fit : AllByRecursion (λ n. (0 < n) × (n < 2 ^ 32)) counts
  pub alone : has_freq option ≡ false → AllByRecursion (λ n. n ≡ 1) counts

-- counts as they are read, each 1 more than it stands
abbrev pub more_1 : List ℕ → List ℕ
more_1 numbers = map (λ n. n + 1) numbers

-- ---- a full block

-- the bytes are 128 documents, of which the entry tells
pub record IsDocBlock (ids : List ℕ) (num_docs next : ℕ) (e : SkipEntry) (docs bytes : List ℕ) : Type 0 where
  pub docs_are : AreDocs num_docs next docs
  pub count : length docs ≡ 128
  pub last : e.last_doc ≡ slice_index docs 127
  pub width : e.doc_width ≡ width_of (deltas next docs)
  pub least : e.least_id ≡ least_of (map (id_of ids) docs)
  pub bytes_are : bytes ≡ packed_bytes (deltas next docs)

-- the bytes are 128 counts, of which the entry tells
pub record IsCountBlock (option : IndexRecordOption) (e : SkipEntry) (counts bytes : List ℕ) : Type 0 where
  pub counts_are : AreCounts option counts
  pub count : length counts ≡ 128
  pub sum_fits : has_positions option ≡ true → sum counts < 2 ^ 32
  pub width : e.count_width ≡ (if has_freq option then width_of (less_1 counts) else 0)
  pub sum_is : e.count_sum ≡ (if has_positions option then sum counts else 0)
  pub greatest : e.greatest_count ≡ count_code (greatest_of counts)
  pub bytes_are : bytes ≡ (if has_freq option then packed_bytes (less_1 counts) else [])

-- the bytes begin with a full block, of which the entry tells, and whose counts have this sum
pub record BeginsWithBlock (option : IndexRecordOption) (ids : List ℕ) (num_docs next : ℕ) (e : SkipEntry) (bytes : List ℕ) (total : ℕ) : Type 0 where
  pub docs : List ℕ
  pub counts : List ℕ
  pub docs_are : IsDocBlock ids num_docs next e docs (take (16 * e.doc_width) bytes)
  pub counts_are : IsCountBlock option e counts (take (16 * e.count_width) (drop (16 * e.doc_width) bytes))
  pub total_is : total ≡ sum counts

-- ---- the rest

-- `n` documents below `num_docs` stand first, from a least one on
pub record BeginsWithDocs (num_docs next n : ℕ) (bytes left : List ℕ) : Type 0 where
  pub deltas : List ℕ
  pub taken : take_numbers n bytes ≡ Some (deltas, left)
  pub within : AllByRecursion (λ doc. doc < num_docs) (documents next deltas)

-- the bytes are `n` recorded counts, each less 1, which have this sum
pub record HasCounts (n : ℕ) (bytes : List ℕ) (total : ℕ) : Type 0 where
  pub numbers : List ℕ
  pub taken : take_numbers n bytes ≡ Some (numbers, [])
  pub fit : AllByRecursion (λ k. k < 2 ^ 32) (more_1 numbers)
  pub total_is : total ≡ sum (more_1 numbers)

-- the bytes are `n` counts, which have this sum
pub record HasRestCounts (option : IndexRecordOption) (n : ℕ) (bytes : List ℕ) (total : ℕ) : Type 0 where
  pub counts : List ℕ
  pub counts_are : AreCounts option counts
  pub many : length counts ≡ n
  pub bytes_are : bytes ≡ (if has_freq option then numbers_bytes (less_1 counts) else [])
  pub total_is : total ≡ sum counts

-- ---- all blocks

-- the bytes are these documents and counts: full blocks, of which the entries tell, and `n` more documents
pub record AreBlocks (option : IndexRecordOption) (ids : List ℕ) (num_docs next : ℕ) (es : List SkipEntry) (n : ℕ) (docs counts bytes : List ℕ) : Type 0 where
  pub docs_are : AreDocs num_docs next docs
  pub counts_are : AreCounts option counts
  pub many : length docs ≡ 128 * length es + n
  pub same : length counts ≡ length docs
  pub sums_fit : has_positions option ≡ true → SumsFit (length es) counts
  pub entries : es ≡ skip_entries option ids (length es) next docs counts
  pub bytes_are : bytes ≡ all_blocks option (length es) next docs counts

-- the bytes are such blocks, whose counts have this sum
pub record HasBlocks (option : IndexRecordOption) (ids : List ℕ) (num_docs next : ℕ) (es : List SkipEntry) (n : ℕ) (bytes : List ℕ) (total : ℕ) : Type 0 where
  pub docs : List ℕ
  pub counts : List ℕ
  pub blocks_are : AreBlocks option ids num_docs next es n docs counts bytes
  pub total_is : total ≡ sum counts

-- ---- entries

-- an entry as it is checked
abbrev pub entry_of : Entry → SkipEntry
entry_of e = record { last_doc = e.last_doc; doc_width = e.doc_width; count_width = e.count_width; count_sum = e.count_sum; least_id = e.least_id; greatest_count = e.greatest_count }

-- whether an entry stands first
abbrev pub IsFirst : SkipEntry → List SkipEntry → Type 0
IsFirst e [] = ⊥
IsFirst e (f ∷ es) = f ≡ e
