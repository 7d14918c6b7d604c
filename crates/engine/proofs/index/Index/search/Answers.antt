use Rattle.std.proofs.Common.{None, Some, ◌≡◌, ◌≢◌, ◌⊎◌}
use Rattle.definitions.specs.Calls as calls
use Rattle.definitions.specs.Refusing.{refusal}
use Rattle.definitions.specs.Settings.{similarity_of}
use Rattle.definitions.specs.declared.fault.Fault.TheVariants as faults
use Rattle.query_trees.specs.Queries.{query_of}
use Rattle.engine.specs.Indexes.{schema_of, settings_of}
use Rattle.index_file.proofs.ErrorsKept.{err_has}
use Rattle.index_state.proofs.Shadows.{not_ok}
use Rattle.engine.proofs.index.Index.search.Goals as goal

pub returns-in_err-hits-clause-err : goal.returns-in_err-hits-clause-err
returns-in_err-hits-clause-err g c k x s =
    err_has c.from_residual.result c.in_err-hits.field-0.0 (λ f. f ≢ faults.OutOfMemory → calls.call_fault k x (calls.search_best (query_of c.args.query.now) c.args.k) ≡ Some f) c.from_residual.ensures.1 (c.in_err-hits.ensures.err k x s)

pub returns-in_err-hits-clause-faults : goal.returns-in_err-hits-clause-faults
returns-in_err-hits-clause-faults g c =
    err_has c.from_residual.result c.in_err-hits.field-0.0 (λ f. (f ≡ faults.Closed) ⊎ (f ≡ faults.OutOfMemory) ⊎ (f ≡ faults.Damaged None) ⊎ (refusal (schema_of c.args.self.now) (similarity_of (settings_of c.args.self.now)).weight (query_of c.args.query.now) ≡ Some f)) c.from_residual.ensures.1 c.in_err-hits.ensures.faults

pub returns-in_err-hits-clause-own : goal.returns-in_err-hits-clause-own
returns-in_err-hits-clause-own g c k x s =
    err_has c.from_residual.result c.in_err-hits.field-0.0 (λ f. f ≡ faults.OutOfMemory → calls.call_fault k x (calls.search_best (query_of c.args.query.now) c.args.k) ≡ None) c.from_residual.ensures.1 (c.in_err-hits.ensures.own k x s)

pub returns-in_err-hits-clause-refused : goal.returns-in_err-hits-clause-refused
returns-in_err-hits-clause-refused g c k x s =
    err_has c.from_residual.result c.in_err-hits.field-0.0 (λ f. f ≢ faults.OutOfMemory → (f ≡ faults.Damaged None) ⊎ (calls.call_fault k x (calls.search_best (query_of c.args.query.now) c.args.k) ≡ Some f)) c.from_residual.ensures.1 (c.in_err-hits.ensures.refused k x s)

pub returns-in_err-hits-clause-admitted : goal.returns-in_err-hits-clause-admitted
returns-in_err-hits-clause-admitted g c k x s =
    not_ok c.from_residual.result c.in_err-hits.field-0.0 _ c.from_residual.ensures.1
