use Rattle.std.proofs.Common.{IfErr, IfOk, Result, sym, ◌∙◌, ℕ}
use Rattle.definitions.specs.declared.fault.Fault.{Fault}
use Rattle.segment_reader.proofs.CheckedOnce.{none_checked, one_checked}
use Rattle.segment_reader.specs.CheckedTerms.{bytes_of}
use Rattle.segment_reader.proofs.checked_terms.check_at.Goals as goal

if_ok : {P Q : ℕ → Type 0} (r : Result ℕ Fault) → ((n : ℕ) → P n → Q n) → IfOk r P → IfOk r Q
if_ok (Rattle.std.proofs.Common.Ok n) to p = to n p
if_ok (Rattle.std.proofs.Common.Err e) to p = p

pub returns-clause-ok : goal.returns-clause-ok
returns-clause-ok c = if_ok c.check_term.result (λ total found. one_checked (bytes_of c.args.sections) (c.args.key.now, c.args.info.now) c.args.kind _ c.args.num_docs _ found.0 total c.option_of.ensures found.1 found.2 found.3 (sym c.is_key.ensures ∙ c.if-not-is_key.false)) c.check_term.ensures.ok

if_err : {P Q : Fault → Type 0} (r : Result ℕ Fault) → ((e : Fault) → P e → Q e) → IfErr r P → IfErr r Q
if_err (Rattle.std.proofs.Common.Ok n) to p = p
if_err (Rattle.std.proofs.Common.Err e) to p = to e p

pub returns-clause-err : goal.returns-clause-err
returns-clause-err c = if_err c.check_term.result (λ fault refused. (refused.0, none_checked (bytes_of c.args.sections) (c.args.key.now, c.args.info.now) c.args.kind _ c.args.num_docs _ c.option_of.ensures refused.1)) c.check_term.ensures.err
