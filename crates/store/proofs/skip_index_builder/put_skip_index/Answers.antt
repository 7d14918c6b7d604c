use Rattle.std.proofs.Common.{ap, flat_map, length, ◌++◌, ◌∙◌}
use Rattle.definitions.specs.NumberCodes.{vint_bytes}
use Rattle.layouts.specs.Stores.{layers}
use Rattle.store.specs.Spelling.{layer_lengths, layers_bytes}
use Rattle.store.proofs.Layering.{index_put}
use Rattle.store.proofs.skip_index_builder.put_skip_index.Goals as goal

pub returns : goal.returns
returns c =
    index_put c.args.out.now.items c.put_lengths.new.out.items _ c.put_layers.new.lengths.items c.put_layers.new.body.items c.args.checkpoints.now
    (c.in_ok-put_layers.ensures.lengths ∙ ap (λ xs. xs ++ layer_lengths (layers c.args.checkpoints.now)) c.new-lengths.ensures.items)
    (c.in_ok-put_layers.ensures.body ∙ ap (λ xs. xs ++ layers_bytes (layers c.args.checkpoints.now)) c.new-body.ensures.items)
    (c.in_ok-put_lengths.ensures ∙ ap (λ ns. c.args.out.now.items ++ (vint_bytes (length ns) ++ flat_map vint_bytes ns)) c.deref.ensures.value)
    (c.in_ok-extend_from_slice.ensures.items ∙ ap (λ xs. c.put_lengths.new.out.items ++ xs) c.deref-2.ensures.value)
