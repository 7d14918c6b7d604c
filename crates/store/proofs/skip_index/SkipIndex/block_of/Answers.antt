use Rattle.std.proofs.Common.{ap, arith, subst, ◌<◌, ◌≤◌, ◌∙◌}
use Rattle.std.specs.List.{position_or_len}
use Rattle.layouts.specs.declared.checkpoint.Checkpoint.{Checkpoint}
use Rattle.store.specs.SkipIndexes.{passes}
use Rattle.store.proofs.Lowest.{halves_done, halves_down, halves_up}
use Rattle.store.proofs.skip_index.SkipIndex.block_of.Goals as goal

pub loop-low-preserved-then-index-target : goal.loop-low-preserved-then-index-target
loop-low-preserved-then-index-target c =
    halves_up _ _ _ _ _ c.self.invariant c.loop-low.invariant (omega arith) (omega arith) c.index.result.now
    (subst (λ (x : Checkpoint). x.doc_range.end ≤ c.args.target) c.index.ensures c.if-index-target.true)

pub loop-low-preserved : goal.loop-low-preserved
loop-low-preserved c =
    halves_down _ _ _ _ _ c.self.invariant c.loop-low.invariant (omega arith) (omega arith) c.index.result.now
    (subst (λ (x : Checkpoint). c.args.target < x.doc_range.end) c.index.ensures c.if-index-target.false)

pub returns : goal.returns
returns c =
    halves_done c.self.inside.checkpoints.items c.args.target c.loop-low.low c.loop-low.high c.loop-low.invariant c.loop-low-test.false
    ∙ ap (position_or_len (passes c.args.target)) c.self.view_is
