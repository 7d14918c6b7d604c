-- Fields by their names.
use Rattle.std.specs.Prelude.{ℕ, List, ◌≡◌, ◌≤◌, IsTrue, length, String}
use Rattle.std.specs.List.{AllByRecursion}
use Rattle.std.specs.BTreeMap.{BTreeMap, get_by_text}
use Rattle.std.specs.declared.alloc.Global.{Global}
use Rattle.schema.specs.Entries.{IsTyped}
use Rattle.definitions.specs.Schema.{AreDistinct, Schema, field_named, is_valid_field_name, max_fields}

-- each name's number is kept, names are valid, none comes twice, and fields have the options of their types
pub record Numbers (numbers : BTreeMap (String Global) ℕ) (fields : Schema) : Type 0 where
  pub by_name : (name : List ℕ) → get_by_text numbers name ≡ field_named fields name
  pub distinct : AreDistinct fields
  pub valid : AllByRecursion (λ e. IsTrue (is_valid_field_name e.name)) fields
  pub typed : AllByRecursion IsTyped fields
  pub count_fits : length fields ≤ max_fields
