use Rattle.phrase_cases.proofs.indexes.index_all.Goals as goal

pub add-requires : goal.add-requires
add-requires g c = ∣ c.loop-doc.invariant ∣₁

pub loop-doc-preserved : goal.loop-doc-preserved
loop-doc-preserved g c = (_, c.in_ok-add.ensures.ok c.loop-doc.invariant.0 c.loop-doc.invariant.1)
