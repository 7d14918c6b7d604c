-- Queries in JSON, by the steps in which they are read.
use Rattle.std.specs.Prelude.{Err, None, Ok, Option, Result, Some, codes, ◌≡◌, ◌≢◌}
use Rattle.definitions.specs.Json.{at_or, named, number_in, text_at, ◌>>=◌}
use Rattle.definitions.specs.Query.{Clauses, Query, boolean, default_minimum}
use Rattle.definitions.specs.QueryGrammar.{Form, forms, many_at, one_at, query_formed}
use Rattle.definitions.specs.Schema.{Schema}
use Rattle.definitions.specs.declared.fault.Fault.{Fault}
use Rattle.definitions.specs.declared.fault.Fault.TheVariants as faults
use Rattle.serde_json.specs.Data as json

-- What was returned, seen by view, is what a definition gives, or it says that this gives nothing.
abbrev pub Gives : {X Y : Type 0} → (X → Y) → Result X Fault → Option Y → Type 0
Gives view (Ok x) given = given ≡ Some (view x)
Gives view (Err fault) given = fault ≢ faults.OutOfMemory → (fault ≡ faults.BadQuery) × (given ≡ None)

-- the form that `q` names
abbrev pub form_at : json.Data → Option Form
form_at d = text_at (codes "q") d >>= named forms

-- the query of a form
abbrev pub formed : Form → Schema → json.Data → Option Query
formed form schema d = query_formed form schema (one_at schema d) (many_at schema d) d

-- the query of clauses, with the least number that is given
abbrev pub least_query : json.Data → Clauses → Option Query
least_query d cs = at_or (default_minimum cs) number_in (codes "min") d >>= (λ least. Some (boolean cs least))
