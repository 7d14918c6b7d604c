-- What is written and what is left make the whole.
use Rattle.std.proofs.Common.{◌++◌, ◌≡◌, drop, map}
use Rattle.definitions.specs.SettingsGrammar.{weight_data}
use Rattle.serde_json.specs.View.{view}
use Rattle.settings.proofs.json_settings.weights_to_json.Given as goal

abbrev pub invariant-loop-term : goal.invariant-loop-term
invariant-loop-term l = map view l.items.items ++ map (weight_data l.schema) (drop l.term-index l.weights) ≡ map (weight_data l.schema) l.weights
