use Rattle.std.proofs.Common.{List, ap, arith, inr, length, refl, sym, ◌++◌, ◌<◌, ◌^◌, ◌≡◌, ◌∙◌, true, false}
use Rattle.std.proofs.lemmas.Result.{err_from_is_err_and}
use Rattle.layouts.specs.Stores.{layer_bytes, skip_index_bytes}
use Rattle.layouts.specs.declared.checkpoint.Checkpoint.{Checkpoint}
use Rattle.store.specs.SkipIndexes.{adjoins}
use Rattle.store.specs.TakenGroups.{IsGroup}
use Rattle.store.proofs.Lowest.{checked_when, no_layer, no_lowest, not_adjoining, not_spelled}
use Rattle.store.proofs.skip_index.SkipIndex.open.Goals as goal

pub returns-in_err-lowest-clause-err : goal.returns-in_err-lowest-clause-err
returns-in_err-lowest-clause-err c =
    let p = err_from_is_err_and c.from_residual.result c.from_residual.ensures.1 in
    let few : length c.args.bytes.now < 2 ^ 64 = omega arith in
    rw (p.1, p.2) (no_lowest c.args.bytes.now _ few c.in_err-lowest.ensures.err)

pub returns-in_err-take_layer-clause-err : goal.returns-in_err-take_layer-clause-err
returns-in_err-take_layer-clause-err c =
    let p = err_from_is_err_and c.from_residual-in_err-take_layer.result c.from_residual-in_err-take_layer.ensures.1 in
    let few : length c.args.bytes.now < 2 ^ 64 = omega arith in
    rw (p.1, p.2) (no_layer c.args.bytes.now _ _ few c.in_ok-lowest.ensures.ok c.in_err-take_layer.ensures.err)

pub returns-then-not-are_checkpoints-clause-err : goal.returns-then-not-are_checkpoints-clause-err
returns-then-not-are_checkpoints-clause-err c =
    let few : length c.args.bytes.now < 2 ^ 64 = omega arith in
    let reads : (ds : List Checkpoint) → IsGroup ds → c.in_ok-lowest.lowest.now ≡ layer_bytes ds → c.take_layer.new.out.items ≡ ds = λ ds fits e. c.in_ok-take_layer.ensures.ok ds fits e ∙ ap (λ xs. xs ++ ds) c.new-checkpoints.ensures.items in
    inr (refl, not_adjoining c.take_layer.new.out.items c.args.bytes.now c.in_ok-lowest.lowest.now few c.in_ok-lowest.ensures.ok reads (ap (adjoins 0 0) (sym c.deref.ensures.value) ∙ sym c.are_checkpoints.ensures ∙ c.if-not-are_checkpoints.true))

pub returns-then-not-are_same-clause-err : goal.returns-then-not-are_same-clause-err
returns-then-not-are_same-clause-err c =
    let few : length c.args.bytes.now < 2 ^ 64 = omega arith in
    let reads : (ds : List Checkpoint) → IsGroup ds → c.in_ok-lowest.lowest.now ≡ layer_bytes ds → c.take_layer.new.out.items ≡ ds = λ ds fits e. c.in_ok-take_layer.ensures.ok ds fits e ∙ ap (λ xs. xs ++ ds) c.new-checkpoints.ensures.items in
    let put : c.put_skip_index.new.out.items ≡ skip_index_bytes c.take_layer.new.out.items = c.in_ok-put_skip_index.ensures ∙ ap (λ xs. xs ++ skip_index_bytes c.deref-2.result.now) c.new-spelled.ensures.items ∙ ap skip_index_bytes c.deref-2.ensures.value in
    inr (refl, not_spelled c.take_layer.new.out.items c.args.bytes.now c.in_ok-lowest.lowest.now c.put_skip_index.new.out.items few c.in_ok-lowest.ensures.ok reads put (λ same. let yes : c.are_same.result ≡ true = c.are_same.ensures.1 (c.deref-3.ensures.value ∙ same) in let bad : true ≡ false = sym yes ∙ c.if-not-are_same.true in cc))

pub invariant_of-result : goal.invariant_of-result
invariant_of-result c = checked_when c.take_layer.new.out.items (ap (adjoins 0 0) (sym c.deref.ensures.value) ∙ sym c.are_checkpoints.ensures ∙ c.if-not-are_checkpoints.false)

pub returns-clause-ok : goal.returns-clause-ok
returns-clause-ok c =
    let put : c.put_skip_index.new.out.items ≡ skip_index_bytes c.take_layer.new.out.items = c.in_ok-put_skip_index.ensures ∙ ap (λ xs. xs ++ skip_index_bytes c.deref-2.result.now) c.new-spelled.ensures.items ∙ ap skip_index_bytes c.deref-2.ensures.value in (
      checked_when c.take_layer.new.out.items (ap (adjoins 0 0) (sym c.deref.ensures.value) ∙ sym c.are_checkpoints.ensures ∙ c.if-not-are_checkpoints.false),
      sym (c.are_same.ensures.0 c.if-not-are_same.false) ∙ c.deref-3.ensures.value ∙ put,
    )
