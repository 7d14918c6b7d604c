use Rattle.bench.proofs.segment_steps.add_all.Goals as goal

pub add-requires-clause-written : goal.add-requires-clause-written
add-requires-clause-written g c = ∣ c.loop-doc.invariant ∣₁

pub loop-doc-preserved : goal.loop-doc-preserved
loop-doc-preserved g c = (let before = c.loop-doc.invariant in (before.0, _, c.in_ok-add.ensures.ok before.0 before.1 before.2))
