-- Queries that aren't refused.
use Rattle.std.proofs.Common.{[], Err, IfErr, List, None, Ok, Result, Some, ap, sym, true≢false, ◌∙◌, ◌≡◌, ◌≢◌, ℕ}
use Rattle.std.specs.Bool.{⊤}
use Rattle.std.specs.Result.{result_err}
use Rattle.definitions.proofs.Bounds.{accepted_tree as passes}
use Rattle.definitions.proofs.OwnFaults.{is_failure, refused_by_no_failure}
use Rattle.definitions.specs.Calls.{Configuration, Index, count_all, ready}
use Rattle.definitions.specs.Query.{Query}
use Rattle.definitions.specs.Refusing.{refusal}
use Rattle.definitions.specs.Schema.{Schema}
use Rattle.definitions.specs.State.{nothing_yet}
use Rattle.definitions.specs.declared.fault.Fault.{Fault}
use Rattle.definitions.specs.declared.fault.Fault.TheVariants as faults
use Rattle.query_scorers.specs.Accepted.{IsAccepted}

-- so that it has a scorer
pub accepts : (schema : Schema) (weight : List ℕ → ℕ) (q : Query) → refusal schema weight q ≡ None → IsAccepted weight 1 q
accepts schema weight q h = ∣ (schema, passes schema weight q h) ∣₁

-- no query is refused as memory ran out
pub refused_by_itself : (schema : Schema) (weight : List ℕ → ℕ) (q : Query) (fault : Fault) → refusal schema weight q ≡ Some fault → fault ≢ faults.OutOfMemory
refused_by_itself schema weight q fault is memory =
    let c : Configuration = record { schema = schema; analyze = λ name text. []; similarity = record { weight = weight; norms = [] }; docs_per_segment = 0 } in
    let x : Index = record { state = nothing_yet; status = ready } in
    true≢false (sym (ap is_failure memory) ∙ refused_by_no_failure c x (count_all q) fault is)

pub errs_by_itself : (schema : Schema) (weight : List ℕ → ℕ) (q : Query) (r : Result ⊤ Fault) → result_err r ≡ refusal schema weight q → IfErr r (λ fault. fault ≢ faults.OutOfMemory)
errs_by_itself schema weight q (Ok u) is = tt
errs_by_itself schema weight q (Err fault) is = refused_by_itself schema weight q fault (sym is)
