use Rattle.term_scorer.proofs.BlockBounds.{moved_bounded}
use Rattle.term_scorer.proofs.term_scorer.TermScorerDocSet.advance.Goals as goal

pub invariant_of-self-clause-bounded : goal.invariant_of-self-clause-bounded
invariant_of-self-clause-bounded c = moved_bounded c.args.self.now.fieldnorm_reader _ c.args.self.now.postings c.advance.new.self c.advance.ensures.moved c.args.self.now.bounded
