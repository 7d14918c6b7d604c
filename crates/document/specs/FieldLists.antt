-- The stored values of a document, a list for each field of a schema, borrowed.
use Rattle.std.specs.Prelude.{[], ◌∷◌, List, Vec, map, ℕ}
use Rattle.std.specs.Borrow.{Bor}
use Rattle.std.specs.declared.alloc.Global.{Global}
use Rattle.definitions.specs.Printed.{printed_list}
use Rattle.definitions.specs.Stored.{plain}
use Rattle.definitions.specs.Values.{Value}
use Rattle.document_values.specs.Shown.{value_of}
use Rattle.document_values.specs.declared.compact_value.CompactDocValue.{CompactDocValue}
use Rattle.serde_json.specs.Data as json

-- values that are lent, as they are stored
abbrev pub lent_values : List CompactDocValue → List Value
lent_values vs = map (λ v. plain (value_of v)) vs

-- lists of such values
abbrev pub lent_lists : List (Vec CompactDocValue Global) → List (List Value)
lent_lists lists = map (λ l. lent_values l.items) lists

-- fields with their names, each with its values, as JSON
abbrev pub lent_fields : List (Bor (List ℕ) × Vec CompactDocValue Global) → json.Members
lent_fields [] = json.no_members
lent_fields (f ∷ fs) = json.member f.0.now (json.array (printed_list (lent_values f.1.items))) (lent_fields fs)
