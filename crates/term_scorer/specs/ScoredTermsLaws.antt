-- Laws of what a scorer of a term has.
use Rattle.docsets.specs.Entries.{Rising}
use Rattle.segment_postings.specs.Cursors.{entries_left}
use Rattle.segment_postings.specs.CursorsLaws.{rising_left}
use Rattle.term_scorer.specs.ScoredTerms.{scored_left}
use Rattle.term_scorer.specs.Similarities.{similarity_data}
use Rattle.term_scorer.specs.TermScoreLaws.{Rising-term}
use Rattle.term_scorer.specs.declared.term_scorer.TermScorer.{TermScorer}

-- the documents that remain rise
pub rising_scored : (s : TermScorer) → Rising 0 (scored_left s)
rising_scored s = Rising-term (similarity_data s.similarity) s.fieldnorm_reader (entries_left s.postings) s.similarity.fits (rising_left s.postings)
