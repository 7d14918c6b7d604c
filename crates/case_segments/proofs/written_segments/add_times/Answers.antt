use Rattle.case_segments.proofs.written_segments.add_times.Goals as goal

pub add-requires-clause-written : goal.add-requires-clause-written
add-requires-clause-written g c = ∣ c.loop.invariant ∣₁

pub loop-preserved : goal.loop-preserved
loop-preserved g c = (let before = c.loop.invariant in (before.0, _, c.in_ok-add.ensures.ok before.0 before.1 before.2))
