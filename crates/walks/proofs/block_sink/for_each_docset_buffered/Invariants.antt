use Rattle.std.proofs.Common.{length, map}
use Rattle.walks.specs.Blocks.{IsFedInBlocks}
use Rattle.walks.proofs.block_sink.for_each_docset_buffered.Given as goal

-- what takes the rest from here on has taken all from the start
abbrev pub invariant-loop-buffer : goal.invariant-loop-buffer
invariant-loop-buffer g l = record {
  fed : (after : _) → IsFedInBlocks g.K.BlockSink.taken (g.K.BlockSink.state l.sink) (map (λ e. e.doc) (g.D.DocSet.entries l.docset)) after → IsFedInBlocks g.K.BlockSink.taken (g.K.BlockSink.state l.fn.sink) (map (λ e. e.doc) (g.D.DocSet.entries l.fn.docset)) after;
}

abbrev pub decreases-loop-buffer : goal.decreases-loop-buffer
decreases-loop-buffer g l = length (g.D.DocSet.entries l.docset)
