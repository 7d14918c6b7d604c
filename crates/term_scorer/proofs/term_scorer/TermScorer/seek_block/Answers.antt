use Rattle.std.proofs.Common.{ap, arith}
use Rattle.docsets.specs.ScoredEntries.{rescored_by}
use Rattle.segment_postings.specs.Cursors.{counts_left, cursor_blocks, docs_left, skips_left}
use Rattle.term_scorer.proofs.BlockBounds.{block_covers, stayed_bounded}
use Rattle.term_scorer.specs.Similarities.{similarity_data}
use Rattle.term_scorer.specs.TermScores.{documents_bound, entry_score}
use Rattle.term_scorer.proofs.term_scorer.TermScorer.seek_block.Goals as goal

pub invariant_of-self : goal.invariant_of-self
invariant_of-self c =
    let self = c.args.self.now in
    let same = ap documents_bound c.seek_block.ensures.same in
    let covered = self.covered in
    let stayed = c.seek_block.ensures.stayed in
    record {
      covered = omega (arith, same, covered);
      bounded = stayed_bounded self.fieldnorm_reader _ _ _ _ _ _ stayed.entries stayed.docs stayed.counts self.bounded;
    }

pub returns-clause-same : goal.returns-clause-same
returns-clause-same c = ap (rescored_by (entry_score (similarity_data c.args.self.now.similarity) c.args.self.now.fieldnorm_reader)) c.seek_block.ensures.same

pub returns-clause-covers : goal.returns-clause-covers
returns-clause-covers c = λ small.
    (let self = c.args.self.now in
    block_covers (similarity_data self.similarity) self.fieldnorm_reader _ _ _ c.args.target (docs_left (cursor_blocks self.postings)) (counts_left (cursor_blocks self.postings)) _ (skips_left (cursor_blocks self.postings)) _ self.bounded c.seek_block.ensures.reached c.seek_block.ensures.block self.similarity.rises self.similarity.norm_for_each c.ids_are_below_256.ensures self.covered)
