-- The documents and counts that stand in a term's bytes.
use Rattle.std.specs.Prelude.{[], ⊤, ◌*◌, ◌++◌, ◌+◌, ◌-◌, ◌/◌, ◌%◌, ◌<◌, ◌^◌, ◌≡◌, ◌≤◌, ◌∷◌, Bool, IsSome, List, None, Option, Some, drop, if◌then◌else◌, length, min, nat_lt, replicate, slice_index, sum, take, true, ℕ}
use Rattle.std.specs.List.{prefix_len}
use Rattle.codes.specs.UnpackedBlocks.{unpacked}
use Rattle.definitions.specs.Postings.{terminated}
use Rattle.definitions.specs.Schema.{IndexRecordOption, has_freq, has_positions}
use Rattle.layouts.specs.Deltas.{documents, next_of}
use Rattle.layouts.specs.SkipEntries.{SkipEntry}
use Rattle.layouts.specs.TermPostings.{AreTermPostings}
use Rattle.layouts.specs.VintBlocks.{take_documents, take_numbers}
use Rattle.codes.specs.SkipBlocks.{Skips, block_size}
use Rattle.segment_postings.specs.Blocks.{more_1}

-- ---- a full block, behind the document before it (0 where none stands before)

abbrev pub block_docs : ℕ → ℕ → List ℕ → List ℕ
block_docs before doc_width bytes = documents (next_of before) (unpacked doc_width (take (16 * doc_width) bytes))

-- each is 1 where counts aren't read
abbrev pub block_counts : Bool → ℕ → List ℕ → List ℕ
block_counts reads count_width bytes = if reads then more_1 (unpacked count_width (take (16 * count_width) bytes)) else replicate 128 1

-- ---- the rest

-- a list, and what follows it; none where it isn't there
abbrev pub found : Option (List ℕ × List ℕ) → List ℕ × List ℕ
found None = ([], [])
found (Some p) = p

abbrev pub rest_docs : ℕ → ℕ → List ℕ → List ℕ
rest_docs before n bytes = (found (take_documents before n bytes)).0

abbrev pub rest_counts : Bool → ℕ → List ℕ → List ℕ
rest_counts reads n bytes = if reads then more_1 (found (take_numbers n bytes)).0 else replicate n 1

-- ---- from one block on

abbrev pub docs_in : ℕ → List SkipEntry → ℕ → List ℕ → List ℕ
docs_in before [] n bytes = rest_docs before n bytes
docs_in before (e ∷ es) n bytes = block_docs before e.doc_width bytes ++ docs_in e.last_doc es n (drop (block_size e) bytes)

abbrev pub counts_in : Bool → ℕ → List SkipEntry → ℕ → List ℕ → List ℕ
counts_in reads before [] n bytes = rest_counts reads n (found (take_documents before n bytes)).1
counts_in reads before (e ∷ es) n bytes = block_counts reads e.count_width (drop (16 * e.doc_width) bytes) ++ counts_in reads e.last_doc es n (drop (block_size e) bytes)

-- ---- what makes them readable

-- a full block that its entry tells of
pub record IsReadable (reads sums : Bool) (before : ℕ) (e : SkipEntry) (bytes : List ℕ) : Type 0 where
  pub doc_width : e.doc_width ≤ 32
  pub count_width : e.count_width ≤ 32
  pub room : block_size e ≤ length bytes
  pub last : slice_index (block_docs before e.doc_width bytes) 127 ≡ e.last_doc
  pub last_positive : 0 < e.last_doc
  pub small : e.last_doc < terminated
  pub counts_fit : (i : ℕ) → slice_index (block_counts reads e.count_width (drop (16 * e.doc_width) bytes)) i < 2 ^ 32
  pub sum_is : sums ≡ true → e.count_sum ≡ sum (block_counts reads e.count_width (drop (16 * e.doc_width) bytes))

-- fewer than 128 documents
pub record IsReadableRest (reads : Bool) (before n : ℕ) (bytes : List ℕ) : Type 0 where
  pub count_fits : n < 128
  pub docs : IsSome (take_documents before n bytes)
  pub small : (i : ℕ) → slice_index (rest_docs before n bytes) i < terminated
  pub counts : reads ≡ true → IsSome (take_numbers n (found (take_documents before n bytes)).1)
  pub counts_fit : (i : ℕ) → slice_index (rest_counts reads n (found (take_documents before n bytes)).1) i < 2 ^ 32

abbrev pub AreReadable : Bool → Bool → ℕ → List SkipEntry → ℕ → List ℕ → Type 0
AreReadable reads sums before [] n bytes = IsReadableRest reads before n bytes
AreReadable reads sums before (e ∷ es) n bytes = IsReadable reads sums before e bytes × AreReadable reads sums e.last_doc es n (drop (block_size e) bytes)

-- ---- a cursor

-- the documents and the counts from the block on at which the entries stand
abbrev pub docs_at : ℕ → Skips → List ℕ → List ℕ
docs_at before skips bytes = docs_in before skips.left skips.rest (drop skips.byte_offset bytes)

abbrev pub counts_at : Bool → ℕ → Skips → List ℕ → List ℕ
counts_at reads before skips bytes = counts_in reads before skips.left skips.rest (drop skips.byte_offset bytes)

-- what is known of the bytes from that block on
pub record StandsIn (reads sums : Bool) (before : ℕ) (skips : Skips) (bytes : List ℕ) : Type 0 where
  pub within : skips.byte_offset ≤ length bytes
  pub readable : AreReadable reads sums before skips.left skips.rest (drop skips.byte_offset bytes)

-- how many documents are below one
abbrev pub below : ℕ → List ℕ → ℕ
below target docs = prefix_len (λ d. nat_lt d target) docs

-- ascending documents below `terminated`
abbrev pub Ascends : ℕ → List ℕ → Type 0
Ascends next [] = ⊤
Ascends next (doc ∷ docs) = (next ≤ doc) × (doc < terminated) × Ascends (doc + 1) docs

-- a block as it is held: of all documents and counts the first 128, and behind the documents `terminated`
pub record IsHeld (docs counts : List ℕ) (len : ℕ) (all_docs all_counts : List ℕ) : Type 0 where
  pub docs_are : docs ≡ take 128 all_docs ++ replicate (128 - len) terminated
  pub counts_are : take len counts ≡ take 128 all_counts
  pub len_is : len ≡ min 128 (length all_docs)

-- the sum of a block's counts before an index
pub record IsSummed (counts : List ℕ) (index total : ℕ) : Type 0 where
  pub within : index ≤ 128
  pub total_is : total ≡ sum (take index counts)
  pub total_fits : total ≤ 4294967295 * index

-- blocks that end before a document are passed, and no other
pub record HasPassed (reads sums : Bool) (target before : ℕ) (s : Skips) (after : ℕ) (t : Skips) (bytes : List ℕ) : Type 0 where
  pub stands : StandsIn reads sums after t bytes
  pub docs : docs_at after t bytes ≡ drop (128 * (below target (docs_at before s bytes) / 128)) (docs_at before s bytes)
  pub counts : counts_at reads after t bytes ≡ drop (128 * (below target (docs_at before s bytes) / 128)) (counts_at reads before s bytes)
  pub entries : t.left ≡ drop (below target (docs_at before s bytes) / 128) s.left
  pub index : below target (docs_at after t bytes) ≡ below target (docs_at before s bytes) % 128
  pub offset : sums ≡ true → t.position_offset ≡ s.position_offset + sum (take (128 * (below target (docs_at before s bytes) / 128)) (counts_at reads before s bytes))

-- ---- a term

-- the bytes are the postings of these documents with these counts, as many as they are and with what is recorded
pub record HasPostings (counts_recorded positions_recorded : Bool) (doc_freq : ℕ) (bytes docs counts : List ℕ) : Type 0 where
  pub option : IndexRecordOption
  pub ids : List ℕ
  pub postings : AreTermPostings option ids docs counts bytes
  pub many : length docs ≡ doc_freq
  pub counts_are : has_freq option ≡ counts_recorded
  pub positions_are : has_positions option ≡ positions_recorded
