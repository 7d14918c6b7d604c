use Rattle.std.proofs.Common.{length}
use Rattle.store.proofs.skip_index_builder.+put_layers.Given as goal

abbrev pub decreases-put_layers : goal.decreases-put_layers
decreases-put_layers l = length l.layer.now
