-- The body of the first record of an index's file, which says what the index is made of.
use Rattle.std.specs.Prelude.{[], ◌&&◌, ◌==◌, ◌∷◌, Bool, List, None, Option, Some, codes, length, nat_le, ℕ}
use Rattle.std.specs.Result.{result_ok}
use Rattle.std.specs.Str.{is_utf8}
use Rattle.definitions.specs.Json.{has_only, object_of, only_if, ◌>>=◌}
use Rattle.definitions.specs.Making.{max_index_fields}
use Rattle.definitions.specs.Schema.{Schema}
use Rattle.definitions.specs.SchemaGrammar.{schema_data, schema_in}
use Rattle.definitions.specs.Settings.{Settings}
use Rattle.definitions.specs.SettingsGrammar.{settings_data, settings_in, weighs_named}
use Rattle.serde_json.specs.Find.{get}
use Rattle.serde_json.specs.Read.{read}
use Rattle.serde_json.specs.Written.{compact_text}
use Rattle.serde_json.specs.Data as json

-- ---- what an index is made of

-- a schema and settings as JSON
abbrev pub made_data : Schema → Settings → json.Data
made_data schema settings = object_of ((codes "schema", schema_data schema) ∷ (codes "settings", settings_data schema settings) ∷ [])

-- byte 1, and the compact text
unfoldable pub first_body : Schema → Settings → List ℕ
first_body schema settings = 1 ∷ compact_text (made_data schema settings)

-- whether an index is made of these: of few fields, and each weighted term one that a term's JSON gives
abbrev pub makes_index : Schema → Settings → Bool
makes_index schema settings = nat_le (length schema) max_index_fields && weighs_named schema settings

-- the schema at its key, and the settings at theirs
abbrev pub schema_at : json.Data → Option Schema
schema_at d = get (codes "schema") d >>= (λ s. result_ok (schema_in s))

-- the settings at their key
abbrev pub settings_at : Schema → json.Data → Option Settings
settings_at schema d = get (codes "settings") d >>= settings_in schema

-- the schema and the settings in an object of exactly these keys
abbrev pub made_in : json.Data → Option (Schema × Settings)
made_in d = only_if (has_only (codes "schema" ∷ codes "settings" ∷ []) d) (do
  schema ← schema_at d
  settings ← settings_at schema d
  only_if (makes_index schema settings) (Some (schema, settings)))

-- the schema and the settings in a JSON text
abbrev pub made_in_text : List ℕ → Option (Schema × Settings)
made_in_text text = only_if (is_utf8 text) (read text >>= made_in)

-- byte 1, and any JSON text of such an object
unfoldable pub first_in : List ℕ → Option (Schema × Settings)
first_in [] = None
first_in (code ∷ text) = only_if (code == 1) (made_in_text text)
