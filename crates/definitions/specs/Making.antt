-- What an index may be made of.
use Rattle.std.specs.Prelude.{[], ◌&&◌, ◌∷◌, ◌||◌, Bool, List, Option, false, length, nat_lt, not, true, ℕ}
use Rattle.std.specs.List.{list_all}
use Rattle.definitions.specs.Refusing.{first_fault}
use Rattle.definitions.specs.Schema.{Entry, Kind, Schema, json_kind, text_kind}
use Rattle.definitions.specs.Settings.{Settings}
use Rattle.definitions.specs.SettingsGrammar.{weighs_named}
use Rattle.definitions.specs.declared.fault.Fault.{Fault}
use Rattle.definitions.specs.declared.fault.Fault.TheVariants as faults

-- the most fields of an index
abbrev pub max_index_fields : ℕ
max_index_fields = 65536

-- the kinds whose values are cut into tokens
abbrev pub has_tokens : Kind → Bool
has_tokens text_kind = true
has_tokens json_kind = true
has_tokens _ = false

-- whether the analyzer knows the field's tokenizer, where it has one
abbrev pub is_analyzed : (List ℕ → Bool) → Entry → Bool
is_analyzed knows e = not (has_tokens e.kind && e.indexed) || knows e.tokenizer

-- whether it knows those of all fields
abbrev pub are_analyzed : (List ℕ → Bool) → Schema → Bool
are_analyzed knows schema = list_all (is_analyzed knows) schema

-- why an index can't be made of an analyzer, a schema and settings
abbrev pub making_fault : (List ℕ → Bool) → Schema → Settings → Option Fault
making_fault knows schema settings = first_fault ((nat_lt max_index_fields (length schema), faults.TooManyFields) ∷ (not (are_analyzed knows schema), faults.UnknownTokenizer) ∷ (not (weighs_named schema settings), faults.BadSettings) ∷ [])
