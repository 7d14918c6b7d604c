use Rattle.std.proofs.Common.{arith, drop, length, map, ◌∙◌, ap, subst}
use Rattle.std.proofs.lemmas.List.{length-drop}
use Rattle.walks.specs.Blocks.{IsFedInBlocks}
use Rattle.walks.proofs.BlockLaws.{fed-entries, some-left}
use Rattle.walks.proofs.block_sink.for_each_docset_buffered.Goals as goal

pub loop-buffer-smaller : goal.loop-buffer-smaller
loop-buffer-smaller g c = (let some = some-left (g.D.DocSet.entries c.loop-buffer.docset) c.doc.result (g.met.D.DocSet.rising c.loop-buffer.docset) c.doc.ensures c.loop-buffer-test.true in let rest = ap length c.fill_buffer-filled.ensures.rest ∙ length-drop 64 (g.D.DocSet.entries c.loop-buffer.docset) in omega (arith, some, rest))

pub loop-buffer-preserved : goal.loop-buffer-preserved
loop-buffer-preserved g c = (let state = c.collect_block.ensures ∙ ap (g.K.BlockSink.taken (g.K.BlockSink.state c.loop-buffer.sink)) c.fill_buffer-filled.ensures.written in record { fed = λ after later. c.loop-buffer.invariant.fed after (fed-entries g.K.BlockSink.taken (g.K.BlockSink.state c.loop-buffer.sink) after (g.D.DocSet.entries c.loop-buffer.docset) (some-left (g.D.DocSet.entries c.loop-buffer.docset) c.doc.result (g.met.D.DocSet.rising c.loop-buffer.docset) c.doc.ensures c.loop-buffer-test.true) (subst (λ now. IsFedInBlocks g.K.BlockSink.taken now (map (λ e. e.doc) (drop 64 (g.D.DocSet.entries c.loop-buffer.docset))) after) state (subst (λ es. IsFedInBlocks g.K.BlockSink.taken (g.K.BlockSink.state c.collect_block.new.self) (map (λ e. e.doc) es) after) c.fill_buffer-filled.ensures.rest later))) })
