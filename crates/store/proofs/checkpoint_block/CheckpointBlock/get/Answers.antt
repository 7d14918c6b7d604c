use Rattle.std.proofs.Common.{ap, arith, length, ◌<◌, ◌∙◌}
use Rattle.std.specs.List.{slice_get}
use Rattle.store.proofs.Lowest.{slice_get_at}
use Rattle.store.proofs.checkpoint_block.CheckpointBlock.get.Goals as goal

pub returns : goal.returns
returns c =
    let below : c.args.at < length c.self.inside.checkpoints.items = omega (arith, ap length c.self.view_is) in
    slice_get_at c.self.inside.checkpoints.items c.args.at c.index.result.now below c.index.ensures ∙ ap (λ cs. slice_get cs c.args.at) c.self.view_is
