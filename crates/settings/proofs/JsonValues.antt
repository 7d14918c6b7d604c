-- The data of null in JSON.
use Rattle.std.proofs.Common.{◌≡◌, rules}
use Rattle.serde_json.specs.Data.{null}
use Rattle.serde_json.specs.View.{view}
use Rattle.serde_json.specs.declared.value.Value.{the_lemmas}
use Rattle.serde_json.specs.declared.value.Value as json

-- nothing
pub view-null : view json.Null ≡ null
view-null = search (rules, the_lemmas)
