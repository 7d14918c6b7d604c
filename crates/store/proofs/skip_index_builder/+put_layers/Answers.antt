use Rattle.std.proofs.Common.{[], ap, arith, length, subst, ◌++◌, ◌<◌, ◌≡◌, ◌∙◌, ◌∷◌}
use Rattle.std.proofs.lemmas.Bool.Decides.{nat_tests}
use Rattle.layouts.specs.Stores.{above, layer_bytes, layers}
use Rattle.store.specs.Spelling.{layer_lengths, layers_bytes}
use Rattle.store.proofs.Layering.{above_fewer, bytes_more, bytes_top, lengths_more, lengths_top}
use Rattle.store.proofs.skip_index_builder.+put_layers.Goals as goal
use Rattle.store.proofs.skip_index_builder.+put_layers.Goals.{else-layer-gt-GROUP_LEN, then-layer-gt-GROUP_LEN+in_ok-put_layers}

pub put_layers-requires : goal.put_layers-requires
put_layers-requires t c =
    let higher : c.deref.result.now ≡ above c.args.layer.now = c.deref.ensures.value ∙ c.in_ok-bytes.ensures.higher in
    let fewer : length (above c.args.layer.now) < length c.args.layer.now = above_fewer c.args.layer.now c.if-layer-gt-GROUP_LEN.true in
    let less : length c.deref.result.now < length c.args.layer.now = omega (arith, ap length higher) in
    (subst (λ n. length c.deref.result.now < n) c.decreases less, tt)

pub returns-clause-lengths : goal.returns-clause-lengths
returns-clause-lengths t c =
    let layer = c.args.layer.now in
    let old = c.args.lengths.now.items in
    let len : c.len.result ≡ length c.in_ok-bytes.bytes.items = (let ok = c.in_ok-bytes.bytes.ok in omega (arith, ok, c.len.ensures)) in
    let one = c.in_ok-push.ensures.items ∙ ap (λ n. c.if-layer-gt-GROUP_LEN.lengths.items ++ n ∷ []) (len ∙ ap length c.in_ok-bytes.ensures.bytes) in
    let some : 0 < length layer = grind (arith, nat_tests, c.is_empty.ensures, c.if-is_empty.false) in
    elim c.if-layer-gt-GROUP_LEN.branch [
      | then-layer-gt-GROUP_LEN+in_ok-put_layers w ↦
          let higher : w.deref.result.now ≡ above layer = w.deref.ensures.value ∙ c.in_ok-bytes.ensures.higher in
          lengths_more old c.if-layer-gt-GROUP_LEN.lengths.items _ layer w.if-layer-gt-GROUP_LEN.true
          (ap (λ v. v.items) w.lengths-is ∙ (w.in_ok-put_layers.ensures.lengths ∙ ap (λ ls. old ++ layer_lengths (layers ls)) higher))
          one
      | else-layer-gt-GROUP_LEN w ↦ lengths_top old _ layer some w.if-layer-gt-GROUP_LEN.false (one ∙ ap (λ v. v.items ++ length (layer_bytes layer) ∷ []) w.lengths-is)
    ]

pub returns-clause-body : goal.returns-clause-body
returns-clause-body t c =
    let layer = c.args.layer.now in
    let old = c.args.body.now.items in
    let put = c.in_ok-extend_from_slice.ensures.items ∙ ap (λ bs. c.if-layer-gt-GROUP_LEN.body.items ++ bs) (c.deref-2.ensures.value ∙ c.in_ok-bytes.ensures.bytes) in
    let some : 0 < length layer = grind (arith, nat_tests, c.is_empty.ensures, c.if-is_empty.false) in
    elim c.if-layer-gt-GROUP_LEN.branch [
      | then-layer-gt-GROUP_LEN+in_ok-put_layers w ↦
          let higher : w.deref.result.now ≡ above layer = w.deref.ensures.value ∙ c.in_ok-bytes.ensures.higher in
          bytes_more old c.if-layer-gt-GROUP_LEN.body.items _ layer w.if-layer-gt-GROUP_LEN.true
          (ap (λ v. v.items) w.body-is ∙ (w.in_ok-put_layers.ensures.body ∙ ap (λ ls. old ++ layers_bytes (layers ls)) higher))
          put
      | else-layer-gt-GROUP_LEN w ↦ bytes_top old _ layer some w.if-layer-gt-GROUP_LEN.false (put ∙ ap (λ v. v.items ++ layer_bytes layer) w.body-is)
    ]
