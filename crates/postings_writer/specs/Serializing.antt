-- The postings that recorders stand for, as a serializer takes them.
use Rattle.std.specs.Prelude.{[], ◌++◌, ◌+◌, ◌/◌, ◌<◌, ◌^◌, ◌≡◌, ◌∷◌, IfSome, List, Option, drop, length, map, sum_by, ℕ}
use Rattle.std.specs.List.{AllByRecursion}
use Rattle.definitions.specs.Blocks.{block_len}
use Rattle.definitions.specs.Postings.{Posting, terminated}
use Rattle.codes.specs.UnpackedBlocks.{listed}
use Rattle.definitions.specs.Schema.{IndexRecordOption, has_positions, with_freqs_and_positions}
use Rattle.layouts.specs.Deltas.{IsAscendingFrom}
use Rattle.layouts.specs.InvertedIndexes.{HasPositions}
use Rattle.layouts.specs.Positions.{differences, position_numbers}
use Rattle.layouts.specs.TermPostings.{ArePosted, SumsFit, postings_bytes}
use Rattle.postings_writer.specs.FieldWriting.{FieldWriting, inserted}
use Rattle.postings_writer.specs.TermWriting.{recorded_count}
use Rattle.postings_writer.specs.Occurrences.{postings_at}
use Rattle.postings_writer.specs.declared.recorder.Recorder.{Recorder}
use Rattle.postings_writer.specs.declared.recorder.Recorder.TheVariants.{DocIds, TermFrequencies, TfAndPositions}

-- a document without counts
abbrev pub of_doc : ℕ → Posting
of_doc doc = record { doc = doc; count = 1; positions = [] }

-- a document with its count
abbrev pub of_count : ℕ × ℕ → Posting
of_count p = record { doc = p.0; count = p.1; positions = [] }

-- how much a recorder holds
abbrev pub length_of : Recorder → ℕ
length_of (DocIds docs) = length docs
length_of (TermFrequencies counts) = length counts
length_of (TfAndPositions occurrences) = length occurrences

-- the postings from an index on
abbrev pub postings_from : Recorder → ℕ → List Posting
postings_from (DocIds docs) at = map of_doc (drop at docs)
postings_from (TermFrequencies counts) at = map of_count (drop at counts)
postings_from (TfAndPositions occurrences) at = postings_at with_freqs_and_positions (drop at occurrences)

-- these are the occurrences of a recorder, where it has positions
abbrev pub HoldsOccurrences : Recorder → List (ℕ × ℕ) → Type 0
HoldsOccurrences (DocIds docs) ps = Unit {0}
HoldsOccurrences (TermFrequencies counts) ps = Unit {0}
HoldsOccurrences (TfAndPositions occurrences) ps = ps ≡ occurrences

-- how many tokens a recorder was told of: a document whose count isn't recorded counts 1
abbrev pub tokens_of : Recorder → ℕ
tokens_of r = sum_by (λ (p : Posting). p.count) (postings_from r 0)

-- a posting that stands at an index, with where the next one does
pub record StandsAt (r : Recorder) (at doc count next : ℕ) (deltas : List ℕ) : Type 0 where
  pub positions : List ℕ
  pub rest : postings_from r at ≡ record { doc = doc; count = count; positions = positions } ∷ postings_from r next
  pub deltas_are : deltas ≡ differences 0 positions
  pub further : at < next

-- postings that may be written to a term whose next document isn't below a least one, in a field of these lengths
pub record CanWrite (next : ℕ) (norms : Option (List ℕ)) (ps : List Posting) : Type 0 where
  pub ascending : IsAscendingFrom next (map (λ (p : Posting). p.doc) ps)
  pub fits : AllByRecursion (λ (p : Posting). p.doc < terminated) ps
  pub kept : IfSome norms (λ ids. AllByRecursion (λ (p : Posting). p.doc < length ids) ps)
  pub counted : AllByRecursion (λ (p : Posting). 0 < p.count) ps
  pub placed : AllByRecursion (λ (p : Posting). AllByRecursion (λ n. n < 2 ^ 31) p.positions) ps

-- a term was written behind those before: its postings, its positions and its entry, and its tokens count for the field
pub record IsWrittenTerm (was now : FieldWriting) (key : List ℕ) (option : IndexRecordOption) (ps : List Posting) : Type 0 where
  pub bytes : List ℕ
  pub posted : ArePosted option (map (λ (p : Posting). p.doc) ps) (map (λ (p : Posting). recorded_count option p.count) ps)
  pub sums_fit : SumsFit (length ps / block_len) (map (λ (p : Posting). recorded_count option p.count) ps)
  pub postings_fit : length (postings_bytes option (listed was.writing.norms) (map (λ (p : Posting). p.doc) ps) (map (λ (p : Posting). recorded_count option p.count) ps)) < 2 ^ 32
  pub positions_fit : length bytes < 2 ^ 32
  pub terms_fit : was.terms.num_terms < 4294967295
  pub positions_are : HasPositions (has_positions option) (position_numbers (map (λ (p : Posting). p.positions) ps)) bytes
  pub postings : now.postings ≡ was.postings ++ postings_bytes option (listed was.writing.norms) (map (λ (p : Posting). p.doc) ps) (map (λ (p : Posting). recorded_count option p.count) ps)
  pub positions : now.positions ≡ (was.positions.0 ++ bytes, [])
  pub terms : now.terms ≡ inserted key (record { doc_freq = length (map (λ (p : Posting). p.doc) ps); postings_len = length (postings_bytes option (listed was.writing.norms) (map (λ (p : Posting). p.doc) ps) (map (λ (p : Posting). recorded_count option p.count) ps)); positions_len = length bytes }) was.terms
  pub tokens : now.num_tokens ≡ was.num_tokens + sum_by (λ (p : Posting). p.count) ps
  pub tokens_fit : was.num_tokens + sum_by (λ (p : Posting). p.count) ps < 2 ^ 64
  pub same : (now.field ≡ was.field) × (now.writing.mode ≡ was.writing.mode) × (now.writing.norms ≡ was.writing.norms)
