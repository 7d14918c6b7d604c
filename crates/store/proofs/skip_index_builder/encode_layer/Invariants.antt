use Rattle.std.proofs.Common.{◌++◌, ◌≡◌, length}
use Rattle.layouts.specs.Stores.{above, layer_bytes}
use Rattle.store.proofs.Layering.{above_from}
use Rattle.store.proofs.skip_index_builder.encode_layer.Given as goal

-- the groups that are left complete the layer, and the one above
abbrev pub invariant-loop-rest : goal.invariant-loop-rest
invariant-loop-rest l = record {
  bytes : l.bytes.items ++ layer_bytes l.rest ≡ layer_bytes l.fn.layer;
  higher : l.higher.items ++ above_from (length l.bytes.items) l.rest ≡ above l.fn.layer;
}

abbrev pub decreases-loop-rest : goal.decreases-loop-rest
decreases-loop-rest l = length l.rest
