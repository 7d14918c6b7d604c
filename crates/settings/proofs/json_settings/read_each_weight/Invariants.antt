-- What was read and what is left make the whole.
use Rattle.std.proofs.Common.{◌++◌, ◌≡◌, drop, option_map}
use Rattle.definitions.specs.Json.{each}
use Rattle.definitions.specs.SettingsGrammar.{weight_in}
use Rattle.serde_json.specs.View.{items_view}
use Rattle.settings.proofs.json_settings.read_each_weight.Given as goal

abbrev pub invariant-loop-item : goal.invariant-loop-item
invariant-loop-item l = option_map (λ rest. l.weights.items ++ rest) (each (weight_in l.schema) (items_view (drop l.item-index l.items))) ≡ each (weight_in l.schema) (items_view l.items)
