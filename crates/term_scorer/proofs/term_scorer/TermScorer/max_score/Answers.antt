use Rattle.segment_postings.specs.Cursors.{entries_left}
use Rattle.term_scorer.specs.Similarities.{similarity_data}
use Rattle.term_scorer.proofs.TermScoreLaws.{greatest-below}
use Rattle.term_scorer.proofs.term_scorer.TermScorer.max_score.Goals as goal

pub returns-clause-greatest : goal.returns-clause-greatest
returns-clause-greatest c = greatest-below (similarity_data c.args.self.now.similarity) c.args.self.now.fieldnorm_reader (entries_left c.args.self.now.postings)
