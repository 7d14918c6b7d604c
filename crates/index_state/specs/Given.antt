-- Documents that an add takes.
use Rattle.std.specs.Prelude.{◌≡◌, false, true}
use Rattle.definitions.specs.Calls.{has_unknown_field}
use Rattle.definitions.specs.Indexable.{is_indexable}
use Rattle.definitions.specs.Schema.{Schema}
use Rattle.definitions.specs.Values.{Document}

-- the schema has its fields, and each of its values can be indexed
abbrev pub IsGiven : Schema → Document → Type 0
IsGiven schema doc = (has_unknown_field schema doc ≡ false) × (is_indexable schema doc ≡ true)
