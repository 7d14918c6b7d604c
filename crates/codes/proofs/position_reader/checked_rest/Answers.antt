use Rattle.std.proofs.Common.{List, arith, length, refl, rules, subst, ◌<◌, ℕ}
use Rattle.std.proofs.lemmas.Result.{err_from_is_err_and}
use Rattle.codes.proofs.PositionsOpened.{rest_is, rest_other, rest_untaken}
use Rattle.codes.specs.PositionBlocks.{AreSmall}
use Rattle.codes.proofs.position_reader.checked_rest.Goals as goal

pub returns-in_err-try_uncompress_vint_unsorted_until_end-clause-err : goal.returns-in_err-try_uncompress_vint_unsorted_until_end-clause-err
returns-in_err-try_uncompress_vint_unsorted_until_end-clause-err c =
    let p = err_from_is_err_and c.from_residual.result c.from_residual.ensures.1 in
    let refused = c.in_err-try_uncompress_vint_unsorted_until_end.ensures.err in
    rw (p.1, p.2) (refused.0, λ numbers. rest_untaken c.args.bytes.now numbers refused.1)

pub returns-then-not-is_rest-clause-err : goal.returns-then-not-is_rest-clause-err
returns-then-not-is_rest-clause-err c =
    let P : List ℕ → Type 0 = λ xs. (length xs < 128) × AreSmall xs → ⊥ in
    let other : (length c.output_array.result.now < 128) × AreSmall c.output_array.result.now → ⊥ = search rules in
    (refl, λ numbers. rest_other c.args.bytes.now _ numbers c.in_ok-try_uncompress_vint_unsorted_until_end.ensures.ok (subst P c.output_array.ensures other))

pub returns-clause-ok : goal.returns-clause-ok
returns-clause-ok c =
    let P : List ℕ → Type 0 = λ xs. (length xs < 128) × AreSmall xs in
    let fits : (length c.output_array.result.now < 128) × AreSmall c.output_array.result.now = search rules in
    rest_is c.args.bytes.now _ (λ i. omega (arith, c.type_inv.bytes i)) c.in_ok-try_uncompress_vint_unsorted_until_end.ensures.ok (subst P c.output_array.ensures fits)
