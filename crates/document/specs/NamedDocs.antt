-- Stored values by name, as the definitions have them.
use Rattle.std.specs.Prelude.{[], ◌++◌, ◌∷◌, List, None, Option, Some, String, Vec, if◌then◌else◌, map, string_bytes, suc, zero, ℕ}
use Rattle.std.specs.declared.alloc.Global.{Global}
use Rattle.definitions.specs.Schema.{Entry, Schema}
use Rattle.definitions.specs.Stored.{Named}
use Rattle.definitions.specs.Values.{Document, Value}
use Rattle.document_values.specs.Owned.{owned_values}
use Rattle.document_values.specs.declared.owned_value.OwnedValue.{OwnedValue}
use Rattle.serde_json.specs.Data.{Data}
use Rattle.serde_json.specs.Written.{compact_text, has_float}

-- fields with their values, as they are held
abbrev pub NamedFields : Type 0
NamedFields = List (String Global × Vec OwnedValue Global)

-- a field's name with its values
abbrev pub named_field : String Global × Vec OwnedValue Global → List ℕ × List Value
named_field f = (string_bytes f.0, owned_values f.1.items)

-- fields with their values
abbrev pub named_of : NamedFields → Named
named_of fields = map named_field fields

-- what is shown of a value: its text, where no number in it is a float
abbrev pub shown : Data → Option (List ℕ)
shown json = if has_float json then None else Some (compact_text json)

-- ---- the values of each field of a schema

-- a number of empty lists
abbrev pub no_lists : ℕ → List (List Value)
no_lists zero = []
no_lists (suc n) = [] ∷ no_lists n

-- a value put at the end of one of the lists
abbrev pub put_at : ℕ → Value → List (List Value) → List (List Value)
put_at i v [] = []
put_at zero v (l ∷ ls) = (l ++ v ∷ []) ∷ ls
put_at (suc i) v (l ∷ ls) = l ∷ put_at i v ls

-- each value of a document put at the end of its field's list
abbrev pub put_all : Document → List (List Value) → List (List Value)
put_all [] ls = ls
put_all (p ∷ ps) ls = put_all ps (put_at p.0 p.1 ls)

-- a field's name with its values, where it has some
abbrev pub named_list : Option Entry → List Value → Named
named_list None vs = []
named_list (Some e) [] = []
named_list (Some e) (v ∷ vs) = (e.name, v ∷ vs) ∷ []

-- the lists that aren't empty, with the fields' names
abbrev pub named_lists : Schema → List (List Value) → Named
named_lists [] ls = []
named_lists (e ∷ es) [] = []
named_lists (e ∷ es) (vs ∷ ls) = named_list (Some e) vs ++ named_lists es ls
