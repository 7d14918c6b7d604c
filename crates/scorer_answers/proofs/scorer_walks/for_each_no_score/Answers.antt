use Rattle.std.proofs.Common.{subst}
use Rattle.walks.specs.Blocks.{IsFedInBlocks}
use Rattle.scorer_answers.proofs.scorer_walks.for_each_no_score.Goals as goal

-- src/walks.rt:43:1
pub returns-clause-fed : goal.returns-clause-fed
returns-clause-fed g c schema analyze weight b q docs r stands passes are =
    subst (λ ds. IsFedInBlocks g.K.BlockSink.taken (g.K.BlockSink.state c.args.sink.now) ds (g.K.BlockSink.state c.for_each_docset_buffered.new.sink))
    (are.documents_are schema analyze docs stands passes)
    c.for_each_docset_buffered.ensures.fed
