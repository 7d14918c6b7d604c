-- The terms of fields, as they are written to the sections of a segment.
use Rattle.std.specs.Prelude.{[], ◌++◌, ◌+◌, ◌<◌, ◌^◌, ◌≡◌, ◌≤◌, ◌⊎◌, IsSomeAnd, List, bytes_eq, flat_map, if◌then◌else◌, length, map, slice_get, sum_by, true, ℕ}
use Rattle.std.specs.List.{AllByRecursion, list_any}
use Rattle.codes.specs.UnpackedBlocks.{listed}
use Rattle.definitions.specs.Postings.{Posting}
use Rattle.definitions.specs.Schema.{Entry, IndexRecordOption, Kind, basic, has_positions}
use Rattle.layouts.specs.InvertedIndexes.{HasPositions, IndexedField, IndexedTerm, field_terms, num_tokens, Sections}
use Rattle.layouts.specs.Positions.{position_numbers}
use Rattle.layouts.specs.TermPostings.{AreTermPostings}
use Rattle.layouts.specs.TermSections.{TermsAscend, block_size, field_terms_bytes}
use Rattle.postings_writer.specs.FieldWriting.{FieldWriting, with_terms}
use Rattle.postings_writer.specs.TermWriting.{recorded_count}
use Rattle.postings_writer.specs.Fields.{option_of_key}
use Rattle.terms.specs.TextKeys.{is_text_key}
use Rattle.postings_writer.specs.Limits.{IsTermWithin, TermPasses}
use Rattle.postings_writer.specs.Occurrences.{postings_at}
use Rattle.postings_writer.specs.Serializing.{postings_from, tokens_of}
use Rattle.postings_writer.specs.declared.recorder.Recorder.{Recorder}

-- ---- what stands in the sections

-- the bytes of a term are those of its postings and of their positions
pub record IsSpelled (option : IndexRecordOption) (ids : List ℕ) (t : IndexedTerm) : Type 0 where
  pub postings_are : AreTermPostings option ids (map (λ p. p.doc) t.postings) (map (λ p. recorded_count option p.count) t.postings) t.postings_bytes
  pub positions_are : HasPositions (has_positions option) (position_numbers (map (λ p. p.positions) t.postings)) t.positions_bytes
  pub within : IsTermWithin option t

-- what is recorded of a term by its value bytes, in a field of a kind that records so much of texts
abbrev pub option_in : Kind → IndexRecordOption → List ℕ → IndexRecordOption
option_in kind mode key = if is_text_key kind key then mode else basic

-- how many tokens terms have: the sum of their counts
abbrev pub tokens_in : List IndexedTerm → ℕ
tokens_in ts = sum_by (λ (t : IndexedTerm). sum_by (λ (p : Posting). p.count) t.postings) ts

-- terms were written behind those before: these, with what their recorders stand for
pub record AreAdded (kind : Kind) (was now : FieldWriting) (recorded : List (List ℕ × Recorder)) (ts : List IndexedTerm) : Type 0 where
  pub told : map {B = List ℕ × List Posting} (λ (t : IndexedTerm). (t.key, t.postings)) ts ≡ map (λ (r : List ℕ × Recorder). (r.0, postings_from r.1 0)) recorded
  pub each_spelled : AllByRecursion (λ (t : IndexedTerm). IsSpelled (option_in kind was.writing.mode t.key) (listed was.writing.norms) t) ts
  pub terms : now.terms ≡ with_terms ts was.terms
  pub postings : now.postings ≡ was.postings ++ flat_map (λ (t : IndexedTerm). t.postings_bytes) ts
  pub positions : now.positions ≡ (was.positions.0 ++ flat_map (λ (t : IndexedTerm). t.positions_bytes) ts, [])
  pub terms_fit : 0 < length ts → was.terms.num_terms + length ts ≤ 4294967295
  pub tokens : now.num_tokens ≡ was.num_tokens + tokens_in ts
  pub tokens_fit : was.num_tokens < 2 ^ 64 → now.num_tokens < 2 ^ 64
  pub same : (now.field ≡ was.field) × (now.writing.mode ≡ was.writing.mode) × (now.writing.norms ≡ was.writing.norms)

-- one of these terms passes a limit, or with those before they are too many, or have too many tokens
abbrev pub AnyTermPasses : Kind → FieldWriting → List (List ℕ × Recorder) → Type 0
AnyTermPasses kind was recorded = ((i : ℕ) × IsSomeAnd (slice_get recorded i) (λ r. TermPasses (option_in kind was.writing.mode r.0) (listed was.writing.norms) (postings_from r.1 0))) ⊎ (4294967295 < was.terms.num_terms + length recorded) ⊎ (2 ^ 64 ≤ was.num_tokens + sum_by (λ (r : List ℕ × Recorder). tokens_of r.1) recorded)

-- fields were written behind those before
pub record AreFieldsAdded (was now : Sections) (fields : List IndexedField) : Type 0 where
  pub terms : now.terms ≡ was.terms ++ flat_map (field_terms_bytes (block_size true)) (map field_terms fields)
  pub postings : now.postings ≡ was.postings ++ flat_map (λ (f : IndexedField). flat_map (λ (t : IndexedTerm). t.postings_bytes) f.terms) fields
  pub positions : now.positions ≡ was.positions ++ flat_map (λ (f : IndexedField). flat_map (λ (t : IndexedTerm). t.positions_bytes) f.terms) fields

-- ---- of occurrences

-- a term that has occurrences, with their postings
pub record IsTermOf (e : Entry) (ids : List ℕ) (occurrences : List ℕ → List (ℕ × ℕ)) (t : IndexedTerm) : Type 0 where
  pub has_occurrences : 0 < length (occurrences t.key)
  pub postings_are : t.postings ≡ postings_at (option_of_key e t.key) (occurrences t.key)
  pub spelled : IsSpelled (option_of_key e t.key) ids t

-- a field with the terms that have occurrences
pub record IsFieldOf (e : Entry) (ids : List ℕ) (occurrences : List ℕ → List (ℕ × ℕ)) (f : IndexedField) : Type 0 where
  pub ascend : TermsAscend (map (λ (t : IndexedTerm). t.key) f.terms)
  pub tokens_fit : num_tokens f < 2 ^ 64
  pub terms_fit : length f.terms ≤ 4294967295
  pub each_term : AllByRecursion (IsTermOf e ids occurrences) f.terms
  pub all : (key : List ℕ) → 0 < length (occurrences key) → list_any (bytes_eq key) (map (λ (t : IndexedTerm). t.key) f.terms) ≡ true
