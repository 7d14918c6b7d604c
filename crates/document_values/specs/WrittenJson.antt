-- What is written of a document as JSON.
use Rattle.std.specs.Prelude.{[], ◌∷◌, List, ℕ}
use Rattle.std.specs.Borrow.{Bor}
use Rattle.definitions.specs.Printed.{printed}
use Rattle.document_values.specs.Shown.{value_of}
use Rattle.document_values.specs.declared.compact_value.CompactDocValue.{CompactDocValue}
use Rattle.serde_json.specs.Data as json

-- members that a document lends, as JSON
abbrev pub lent_members : List (Bor (List ℕ) × CompactDocValue) → json.Members
lent_members [] = json.no_members
lent_members (m ∷ ms) = json.member m.0.now (printed (value_of m.1)) (lent_members ms)
