use Rattle.std.proofs.Common.{sym, ◌∙◌, ◌∷◌, ap}
use Rattle.std.proofs.lemmas.Result.{IfErr-weaker, IfOk-weaker, err_from_is_err_and}
use Rattle.layouts.specs.RecordBodies.{first_in}
use Rattle.layouts.proofs.FilesOfRecords.{one_frame}
use Rattle.index_file.proofs.index_file.take_first.Goals as goal

pub returns-in_err-body-clause-err : goal.returns-in_err-body-clause-err
returns-in_err-body-clause-err c =
    let p = err_from_is_err_and c.from_residual.result c.from_residual.ensures.1 in
    rw (p.1, p.2) (λ other body gate more short whole. absurd ((c.in_err-body.ensures.err other).1 body gate more short whole))

pub returns-clause-ok : goal.returns-clause-ok
returns-clause-ok c =
    let is = c.in_ok-body.ensures.ok in
    IfOk-weaker c.read_made.result _ _ (λ made says. record { body = c.in_ok-body.body; short = is.0; bytes_are = is.1; more = is.2; says = says }) c.read_made.ensures.ok

pub returns-clause-err : goal.returns-clause-err
returns-clause-err c =
    let is = c.in_ok-body.ensures.ok in
    IfErr-weaker c.read_made.result _ _ (λ fault none other body gate more short whole.
    ap first_in (one_frame body c.in_ok-body.body (gate ∷ more) c.take_record.new.rest short is.0 (sym whole ∙ is.1)).0 ∙ none other) c.read_made.ensures.err
