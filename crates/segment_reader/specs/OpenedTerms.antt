-- The postings of a term, as they are opened.
use Rattle.std.specs.Prelude.{[], ◌/◌, ◌∷◌, ◌≡◌, List, if◌then◌else◌, length, map, sum_by, ℕ}
use Rattle.segment_postings.specs.Placed.{term_of}
use Rattle.definitions.specs.Blocks.{block_len}
use Rattle.definitions.specs.Postings.{Posting}
use Rattle.definitions.specs.Schema.{IndexRecordOption, has_freq, has_positions}
use Rattle.layouts.specs.InvertedIndexes.{IsTerm}
use Rattle.layouts.specs.SkipEntries.{SkipEntry}
use Rattle.layouts.specs.TermPostings.{skip_entries}
use Rattle.docsets.specs.Entries.{Entry}

-- the bytes are the postings and positions of a term that `doc_freq` documents have
pub record HasTerm (option : IndexRecordOption) (doc_freq : ℕ) (postings positions : List ℕ) (ps : List Posting) : Type 0 where
  pub num_docs : ℕ
  pub ids : List ℕ
  pub is_term : IsTerm option num_docs ids (term_of ps postings positions)
  pub many : length ps ≡ doc_freq

-- a posting as a cursor tells it that is asked for so much: a count that isn't asked for is 1
abbrev pub entry_as : IndexRecordOption → Posting → Entry
entry_as asked p = record { doc = p.doc; score = 0; count = if has_freq asked then p.count else 1; positions = (if has_positions asked then p.positions else []) ∷ [] }

-- the skip entries of postings, in a field with these length ids
abbrev pub entries_of_postings : IndexRecordOption → List ℕ → List Posting → List SkipEntry
entries_of_postings option ids ps = skip_entries option ids (length ps / block_len) 0 (map (λ p. p.doc) ps) (map (λ p. p.count) ps)

-- how many positions a cursor tells that is asked for so much
abbrev pub positions_asked : IndexRecordOption → List Posting → ℕ
positions_asked asked ps = sum_by (λ p. length (if has_positions asked then p.positions else [])) ps
