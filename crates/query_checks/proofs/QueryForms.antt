-- A query is what its form says.
use Rattle.std.proofs.Common.{Err, IfErr, IfOk, List, None, Ok, Option, Result, Some, ap, codes, option_and_then, refl, sym, ◌∙◌, ◌≡◌, ◌≢◌, ℕ}
use Rattle.definitions.specs.Json.{named, text_at}
use Rattle.definitions.specs.Query.{Query}
use Rattle.definitions.specs.QueryGrammar.{Form, forms, many_at, one_at, query_formed, nested_query}
use Rattle.definitions.specs.Schema.{Schema}
use Rattle.definitions.specs.declared.fault.Fault.{Fault}
use Rattle.definitions.specs.declared.fault.Fault.TheVariants as faults
use Rattle.definitions.proofs.QueriesByKeys.{queries_by_keys}
use Rattle.query_checks.specs.ReadQueries.{Gives, form_at, formed}
use Rattle.serde_json.specs.Data as json

named_form : (schema : Schema) (d : json.Data) (o : Option (List ℕ)) → option_and_then (λ name. option_and_then (λ form. query_formed form schema (one_at schema d) (many_at schema d) d) (named forms name)) o ≡ option_and_then (λ form. formed form schema d) (option_and_then (named forms) o)
named_form schema d None = refl
named_form schema d (Some name) = refl

by_form : (schema : Schema) (d : json.Data) → nested_query schema d ≡ option_and_then (λ form. formed form schema d) (form_at d)
by_form schema d = queries_by_keys schema d ∙ named_form schema d (text_at (codes "q") d)

-- a query is that of its form
pub of_form : (schema : Schema) (d : json.Data) (form : Form) → Some form ≡ form_at d → nested_query schema d ≡ formed form schema d
of_form schema d form is = by_form schema d ∙ ap (option_and_then (λ f. formed f schema d)) (sym is)

-- what was read of the form of a query is the query
pub answered : {X : Type 0} (view : X → Query) (schema : Schema) (d : json.Data) (form : Form) (r : Result X Fault) → nested_query schema d ≡ formed form schema d → Gives view r (formed form schema d) → IfOk r (λ x. nested_query schema d ≡ Some (view x))
answered view schema d form (Ok x) same told = same ∙ told
answered view schema d form (Err fault) same told = tt

-- what refuses the form of a query refuses the query
pub refused : {X : Type 0} (view : X → Query) (schema : Schema) (d : json.Data) (form : Form) (r : Result X Fault) → nested_query schema d ≡ formed form schema d → Gives view r (formed form schema d) → IfErr r (λ fault. fault ≢ faults.OutOfMemory → (fault ≡ faults.BadQuery) × (nested_query schema d ≡ None))
refused view schema d form (Ok x) same told = tt
refused view schema d form (Err fault) same told = λ other. let parts = told other in (parts.0, same ∙ parts.1)
