use Rattle.std.proofs.Common.{[], ap, ap₂, arith, drop, length, take, ◌++◌, ◌∙◌, ◌∷◌, ◌≡◌}
use Rattle.store.proofs.Layering.{above_put, layer_put}
use Rattle.store.proofs.skip_index_builder.encode_layer.Goals as goal

pub loop-rest-preserved : goal.loop-rest-preserved
loop-rest-preserved c =
    let rest = c.loop-rest.rest.now in
    let front = c.split_at.ensures.front ∙ ap (λ n. take n rest) c.min.ensures in
    let back = c.split_at.ensures.back ∙ ap (λ n. drop n rest) c.min.ensures in
    let start : c.len-start.result ≡ length c.loop-rest.bytes.items = (let ok = c.loop-rest.bytes.ok in omega (arith, ok, c.len-start.ensures)) in
    let end : c.len.result ≡ length c.put_group.new.out.items = (let ok = c.put_group.new.out.ok in omega (arith, ok, c.len.ensures)) in
    record {
      bytes = layer_put _ _ _ rest c.split_at.result.0.now c.split_at.result.1.now c.loop-rest.invariant.bytes c.loop-rest-test.true front back c.in_ok-put_group.ensures;
      higher = above_put c.loop-rest.bytes.items c.put_group.new.out.items c.group_docs.result c.loop-rest.higher.items _ _ rest c.split_at.result.0.now c.split_at.result.1.now c.loop-rest.invariant.higher c.loop-rest-test.true front back c.in_ok-put_group.ensures c.group_docs.ensures
          (c.in_ok-push.ensures.items ∙ ap₂ (λ m n. c.loop-rest.higher.items ++ record { doc_range = c.group_docs.result; byte_range = record { start = m; end = n } } ∷ []) start end);
    }
