-- What a serializer of a field's terms stands for.
use Rattle.std.specs.Prelude.{[], ◌++◌, ◌+◌, ◌/◌, ◌<◌, ◌^◌, ◌≡◌, ◌≤◌, ◌⊎◌, List, Option, if◌then◌else◌, length, map, true, ℕ}
use Rattle.codes.specs.UnpackedBlocks.{listed}
use Rattle.definitions.specs.Blocks.{block_len}
use Rattle.definitions.specs.NumberCodes.{u32_bytes, u64_bytes, vint_bytes}
use Rattle.definitions.specs.Schema.{IndexRecordOption, has_positions}
use Rattle.definitions.specs.declared.fault.Fault.{Fault}
use Rattle.definitions.specs.declared.fault.Fault.TheVariants as faults
use Rattle.front_coding.specs.TakenKeys.{last_key}
use Rattle.layouts.specs.InvertedIndexes.{HasPositions, IndexedTerm, lengths_of, Sections}
use Rattle.layouts.specs.TermPostings.{ArePosted, SumsFit, postings_bytes}
use Rattle.layouts.specs.TermSections.{TermLengths, before_in_block, block_size, coded_entry, coded_from}
use Rattle.postings_writer.specs.TermWriting.{AreWritten, Writing, begun}

-- the bytes of the fields that are closed, and the entries of the field that isn't, with their number and the last one's key
pub record Terms : Type 0 where
  pub closed : List ℕ
  pub entries : List ℕ
  pub num_terms : ℕ
  pub last : List ℕ

-- one term more
abbrev pub inserted : List ℕ → TermLengths → Terms → Terms
inserted key lengths t = record { closed = t.closed; entries = t.entries ++ coded_entry (before_in_block (block_size true) t.num_terms t.last) (key, lengths); num_terms = t.num_terms + 1; last = key }

-- with these terms
abbrev pub with_terms : List IndexedTerm → Terms → Terms
with_terms ts t = record { closed = t.closed; entries = t.entries ++ coded_from (block_size true) t.num_terms t.last (map lengths_of ts); num_terms = t.num_terms + length ts; last = last_key t.last (map lengths_of ts) }

-- how many tokens the closed terms have, terms, postings and positions of what is closed, the positions that wait, and
-- the term that is written: its value bytes, how many documents it has, and the sum of the counts that were told of them
pub record FieldWriting : Type 0 where
  pub field : ℕ
  pub num_tokens : ℕ
  pub terms : Terms
  pub postings : List ℕ
  pub positions : List ℕ × List ℕ
  pub key : List ℕ
  pub doc_freq : ℕ
  pub total_term_freq : ℕ
  pub writing : Writing

-- these documents of the term were written, with their counts and, where positions are recorded, these numbers
pub record IsOpen (w : FieldWriting) (docs counts numbers : List ℕ) : Type 0 where
  pub written : AreWritten w.writing docs counts
  pub doc_freq_is : w.doc_freq ≡ length docs
  pub numbers_are : w.positions.1 ≡ (if has_positions w.writing.option then numbers else [])

-- the postings of a term
abbrev pub postings_of : Writing → List ℕ → List ℕ → List ℕ
postings_of w docs counts = postings_bytes w.option (listed w.norms) docs counts

-- a term was closed: its postings and positions stand behind the others, and its entry tells of them
pub record IsClosed (was now : FieldWriting) (docs counts numbers : List ℕ) : Type 0 where
  pub bytes : List ℕ
  pub posted : ArePosted was.writing.option docs counts
  pub sums_fit : SumsFit (length docs / block_len) counts
  pub postings_fit : length (postings_of was.writing docs counts) < 2 ^ 32
  pub positions_fit : length bytes < 2 ^ 32
  pub terms_fit : was.terms.num_terms < 4294967295
  pub positions_are : HasPositions (has_positions was.writing.option) numbers bytes
  pub postings : now.postings ≡ was.postings ++ postings_of was.writing docs counts
  pub positions : now.positions ≡ (was.positions.0 ++ bytes, [])
  pub terms : now.terms ≡ inserted was.key (record { doc_freq = length docs; postings_len = length (postings_of was.writing docs counts); positions_len = length bytes }) was.terms

-- the field is the same, and so are the lengths that it keeps
pub record IsSameField (was now : FieldWriting) : Type 0 where
  pub field : now.field ≡ was.field
  pub num_tokens : now.num_tokens ≡ was.num_tokens
  pub mode : now.writing.mode ≡ was.writing.mode
  pub norms : now.writing.norms ≡ was.writing.norms

-- and what stands of the terms that were closed
pub record AreKept (was now : FieldWriting) : Type 0 where
  pub same : IsSameField was now
  pub terms : now.terms ≡ was.terms
  pub postings : now.postings ≡ was.postings
  pub positions : now.positions.0 ≡ was.positions.0

-- and the term that is written is the same one
pub record IsSameTerm (was now : FieldWriting) : Type 0 where
  pub kept : AreKept was now
  pub key : now.key ≡ was.key
  pub option : now.writing.option ≡ was.writing.option

-- a field behind them, of which no term is written yet
abbrev pub field_begun : Sections → ℕ → IndexRecordOption → Option (List ℕ) → FieldWriting
field_begun s field mode norms = record { field = field; num_tokens = 0; terms = record { closed = s.terms; entries = []; num_terms = 0; last = [] }; postings = s.postings; positions = (s.positions, []); key = []; doc_freq = 0; total_term_freq = 0; writing = begun mode mode norms }

-- the sections with the field
abbrev pub field_closed : FieldWriting → Sections
field_closed w = record { terms = w.terms.closed ++ u32_bytes w.field ++ u64_bytes w.num_tokens ++ vint_bytes w.terms.num_terms ++ w.terms.entries; postings = w.postings; positions = w.positions.0 }

-- whether a limit is met where the term is closed: by its postings, its positions, or its field's terms and tokens
abbrev pub MeetsLimit : FieldWriting → List ℕ → List ℕ → List ℕ → Type 0
MeetsLimit w docs counts numbers = (2 ^ 32 ≤ length (postings_of w.writing docs counts)) ⊎ (w.terms.num_terms ≡ 4294967295) ⊎ (2 ^ 64 ≤ w.num_tokens + w.total_term_freq) ⊎ ((bytes : List ℕ) × HasPositions (has_positions w.writing.option) numbers bytes × (2 ^ 32 ≤ length bytes))

-- memory was wanting, or a limit is met
abbrev pub IsCloseRefusal : Fault → FieldWriting → List ℕ → List ℕ → List ℕ → Type 0
IsCloseRefusal fault w docs counts numbers = (fault ≡ faults.OutOfMemory) ⊎ ((fault ≡ faults.Limit) × MeetsLimit w docs counts numbers)
