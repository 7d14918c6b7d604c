use Rattle.std.proofs.Common.{List, map, subst, sym, ◌∙◌, ◌∷◌, ℕ}
use Rattle.std.proofs.lemmas.Result.{IfErr-weaker, IfOk-weaker, err_from_is_err_and}
use Rattle.layouts.proofs.FilesOfRecords.{one_frame}
use Rattle.segment_definitions.specs.ListBodies.{Makes}
use Rattle.segment_definitions.specs.Segments.{IsSegment}
use Rattle.index_file.specs.Lists.{member_of}
use Rattle.index_file.proofs.index_file.take_next.Goals as goal

pub returns-in_err-body-clause-err : goal.returns-in_err-body-clause-err
returns-in_err-body-clause-err c =
    let p = err_from_is_err_and c.from_residual.result c.from_residual.ensures.1 in
    rw (p.1, p.2) (λ other body gate more after short whole makes. (c.in_err-body.ensures.err other).1 body gate more short whole)

pub returns-clause-ok : goal.returns-clause-ok
returns-clause-ok c =
    let is = c.in_ok-body.ensures.ok in
    IfOk-weaker c.next_list.result _ _ (λ after makes. record { body = c.in_ok-body.body; short = is.0; bytes_are = is.1; more = is.2; makes = makes }) c.next_list.ensures.ok

pub returns-clause-err : goal.returns-clause-err
returns-clause-err c =
    let is = c.in_ok-body.ensures.ok in
    IfErr-weaker c.next_list.result _ _ (λ fault none other body gate more after short whole makes.
    let same = one_frame body c.in_ok-body.body (gate ∷ more) c.take_record.new.rest short is.0 (sym whole ∙ is.1) in
    none other after (subst (λ (bs : List ℕ). Makes (IsSegment c.args.opener.schema.now) (map member_of c.args.before.items) after bs) same.0 makes)) c.next_list.ensures.err
