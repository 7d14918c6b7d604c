-- What is read of the terms of a phrase.
use Rattle.std.specs.Prelude.{[], ◌<◌, ◌≡◌, List, length, map, slice_index_or, ℕ}
use Rattle.docsets.specs.Entries.{Entry}
use Rattle.definitions.specs.Postings.{Posting}
use Rattle.definitions.specs.Query.{Terms}
use Rattle.definitions.specs.Schema.{with_freqs_and_positions}
use Rattle.segment_reader.specs.OpenedTerms.{entry_as}
use Rattle.segment_postings.specs.Cursors.{entries_left}
use Rattle.segment_postings.specs.declared.segment_postings.SegmentPostings.{SegmentPostings}

-- the entries of postings, with counts and positions
abbrev pub with_positions : List Posting → List Entry
with_positions ps = map (entry_as with_freqs_and_positions) ps

-- the offsets of terms, each with the entries of the term's postings
abbrev pub placed_entries : (List ℕ → List Posting) → Terms → List (ℕ × List Entry)
placed_entries held terms = map (λ t. (t.0, with_positions (held t.1))) terms

-- offsets, each with what is left of postings
abbrev pub placed_left : List (ℕ × SegmentPostings) → List (ℕ × List Entry)
placed_left read = map (λ t. (t.0, entries_left t.1)) read

-- a term of several has no postings
pub record HasMissing (held : List ℕ → List Posting) (terms : Terms) : Type 0 where
  pub place : ℕ
  pub within : place < length terms
  pub none : held (slice_index_or terms place (0, [])).1 ≡ []
