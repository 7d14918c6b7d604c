use Rattle.std.proofs.Common.{arith, inr, length, refl, ◌<◌, ◌^◌}
use Rattle.std.proofs.lemmas.Result.{err_from_is_err_and}
use Rattle.store.proofs.Opened.{no_end, no_index, no_start}
use Rattle.store.proofs.store_reader.open_index.Goals as goal

pub returns-then-footer-body-clause-err : goal.returns-then-footer-body-clause-err
returns-then-footer-body-clause-err c =
    let small : c.in_ok-footer.footer.offset < 2 ^ 64 = omega arith in
    let few : length c.args.file.now < 2 ^ 64 = omega arith in
    inr (refl, no_start c.args.file.now c.in_ok-footer.body.now c.in_ok-footer.footer.offset c.in_ok-footer.ensures.ok small few (omega arith))

pub returns-in_err-index-clause-err : goal.returns-in_err-index-clause-err
returns-in_err-index-clause-err c =
    let p = err_from_is_err_and c.from_residual-in_err-index.result c.from_residual-in_err-index.ensures.1 in
    let small : c.in_ok-footer.footer.offset < 2 ^ 64 = omega arith in
    let few : length c.args.file.now < 2 ^ 64 = omega arith in
    rw (p.1, p.2) (no_index c.args.file.now c.in_ok-footer.body.now _ _ c.in_ok-footer.footer.offset _ c.in_ok-footer.ensures.ok small few c.split_at.ensures.by_index.0 c.split_at.ensures.front_len c.in_err-index.ensures.err)

pub returns-then-byte_end-blocks-clause-err : goal.returns-then-byte_end-blocks-clause-err
returns-then-byte_end-blocks-clause-err c =
    let small : c.in_ok-footer.footer.offset < 2 ^ 64 = omega arith in
    let few : length c.args.file.now < 2 ^ 64 = omega arith in
    inr (refl, no_end c.args.file.now c.in_ok-footer.body.now _ _ c.in_ok-footer.footer.offset c.in_ok-index.index _ c.in_ok-footer.ensures.ok small few c.split_at.ensures.by_index.0 c.split_at.ensures.front_len c.in_ok-index.ensures.ok c.byte_end.ensures c.if-byte_end-blocks.true)
