-- What a scorer of a term has.
use Rattle.std.specs.Prelude.{◌≡◌, List, ℕ}
use Rattle.docsets.specs.Entries.{Entry}
use Rattle.segment_postings.specs.Cursors.{HasMoved, entries_left}
use Rattle.segment_postings.specs.declared.segment_postings.SegmentPostings.{SegmentPostings}
use Rattle.term_scorer.specs.Similarities.{similarity_data}
use Rattle.term_scorer.specs.TermScores.{TermSimilarity, term_scored}
use Rattle.term_scorer.specs.declared.term_scorer.TermScorer.{TermScorer}

-- the postings over which it goes
abbrev pub cursor_of : TermScorer → SegmentPostings
cursor_of s = s.postings

-- the length id of each document
abbrev pub length_ids : TermScorer → List ℕ
length_ids s = s.fieldnorm_reader

-- the weight, the boost and the norms
abbrev pub similarity_of : TermScorer → TermSimilarity
similarity_of s = similarity_data s.similarity

-- what remains of the postings, with the scores that their counts and length ids earn
abbrev pub scored_left : TermScorer → List Entry
scored_left s = term_scored (similarity_data s.similarity) s.fieldnorm_reader (entries_left s.postings)

-- its postings went on to an index, which is counted from the first document of the block that they held, and all else is
-- as it was
pub record MovesOn (index : ℕ) (before after : TermScorer) : Type 0 where
  pub moved : HasMoved index (cursor_of before) (cursor_of after)
  pub lengths : length_ids after ≡ length_ids before
  pub similarity : similarity_of after ≡ similarity_of before
