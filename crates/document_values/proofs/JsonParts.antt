-- How many parts the JSON of a list or an object has.
use Rattle.std.proofs.Common.{[], ◌∷◌, ◌≡◌, Global, List, String, ap, length, refl, suc}
use Rattle.definitions.specs.Reading.{json_members, json_values}
use Rattle.layouts.specs.DocumentBytes.{members_count, values_count}
use Rattle.serde_json.specs.View.{items_view, members_view}
use Rattle.serde_json.specs.declared.value.Value.{Value as Json}

pub items_counted : (ds : List Json) → values_count (json_values (items_view ds)) ≡ length ds
items_counted [] = refl
items_counted (d ∷ ds) = ap suc (items_counted ds)

pub members_counted : (ms : List (String Global × Json)) → members_count (json_members (members_view ms)) ≡ length ms
members_counted [] = refl
members_counted (m ∷ ms) = ap suc (members_counted ms)
