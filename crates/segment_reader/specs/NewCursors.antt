-- Cursors over the postings of a term, as a reader opens them.
use Rattle.std.specs.Prelude.{[], ◌<◌, ◌≡◌, List, if◌then◌else◌, length, map, ℕ}
use Rattle.std.specs.List.{AllByRecursion}
use Rattle.definitions.specs.Postings.{Posting}
use Rattle.definitions.specs.Schema.{IndexRecordOption, has_freq}
use Rattle.definitions.specs.Terms.{field_of}
use Rattle.docsets.specs.Entries.{from}
use Rattle.layouts.specs.InvertedIndexes.{field_ids, option_of_term, term_of_key}
use Rattle.segment_postings.specs.BoundedBlocks.{AreBounded}
use Rattle.segment_postings.specs.Cursors.{counts_left, cursor_blocks, cursor_blocks_decoded, cursor_doc_freq, cursor_place, cursor_positions, doc_freq_of, docs_left, entries_left, skips_left, skips_reached}
use Rattle.segment_postings.specs.declared.block_segment_postings.BlockSegmentPostings.{BlockSegmentPostings}
use Rattle.segment_postings.specs.declared.segment_postings.SegmentPostings.{SegmentPostings}
use Rattle.segment_reader.specs.OpenedTerms.{entries_of_postings, entry_as, positions_asked}
use Rattle.segment_reader.specs.Readers.{Contents, Reader, postings_held, postings_in}

-- the postings of a term, what is recorded of it, the length ids of its field, and the number of documents
pub record Posted : Type 0 where
  pub postings : List Posting
  pub option : IndexRecordOption
  pub ids : List ℕ
  pub num_docs : ℕ

-- those of a term, by all its bytes
abbrev pub posted : {r : Reader} → Contents r → List ℕ → Posted
posted contents t = record { postings = postings_held contents.schema contents.fields t; option = option_of_term contents.schema t; ids = field_ids contents.norms (field_of t); num_docs = contents.num_docs }

-- those of the term of a field with these value bytes
abbrev pub posted_in : {r : Reader} → Contents r → ℕ → List ℕ → Posted
posted_in contents field key = record { postings = postings_in contents.fields field key; option = option_of_term contents.schema (term_of_key contents.schema field key); ids = field_ids contents.norms field; num_docs = contents.num_docs }

-- a cursor that is asked for so much, and has all postings of a term left
pub record IsNewCursor (asked : IndexRecordOption) (t : Posted) (p : SegmentPostings) : Type 0 where
  -- each posting, with its count and its positions where they are asked for
  pub entries : entries_left p ≡ map (entry_as asked) t.postings
  -- how many documents have the term
  pub doc_freq : cursor_doc_freq p ≡ length t.postings
  -- each of them is in the segment
  pub within : from t.num_docs (entries_left p) ≡ []
  -- the skip entries of all full blocks
  pub skips : skips_left (cursor_blocks p) ≡ entries_of_postings t.option t.ids t.postings
  -- no document of a full block is above the bound in its skip entry
  pub bounded : AreBounded t.ids (skips_left (cursor_blocks p)) (docs_left (cursor_blocks p)) (counts_left (cursor_blocks p))
  -- how many positions it tells
  pub positions : cursor_positions p ≡ positions_asked asked t.postings

-- it stands on a document, the first of a block, and no block but this one was reached or decoded
pub record IsAtStart (p : SegmentPostings) : Type 0 where
  -- there is a document
  pub present : 0 < length (entries_left p)
  -- one block was decoded
  pub decoded : cursor_blocks_decoded p ≡ 1
  -- it stands on the first document of the block
  pub place : cursor_place p ≡ 0
  -- no block that is left was passed
  pub reached : skips_reached (cursor_blocks p) ≡ skips_left (cursor_blocks p)

-- a cursor over blocks that is asked for so much, and has all postings of a term left
pub record AreNewBlocks (asked : IndexRecordOption) (t : Posted) (p : BlockSegmentPostings) : Type 0 where
  -- the documents that have the term
  pub docs : docs_left p ≡ map (λ x. x.doc) t.postings
  -- their counts, or 1 for each where they aren't asked for
  pub counts : counts_left p ≡ map (λ x. if has_freq asked then x.count else 1) t.postings
  -- how many documents have the term
  pub doc_freq : doc_freq_of p ≡ length t.postings
  -- each of them is in the segment
  pub within : AllByRecursion (λ doc. doc < t.num_docs) (docs_left p)
  -- the skip entries of all full blocks
  pub skips : skips_left p ≡ entries_of_postings t.option t.ids t.postings
