-- What was read and what is left make the whole.
use Rattle.std.proofs.Common.{◌++◌, ◌≡◌, drop, map, option_map}
use Rattle.definitions.specs.Json.{each}
use Rattle.definitions.specs.TermGrammar.{key_in}
use Rattle.serde_json.specs.View.{items_view}
use Rattle.settings.proofs.json_paths.read_each_key.Given as goal

abbrev pub invariant-loop-item : goal.invariant-loop-item
invariant-loop-item l = option_map (λ rest. map (λ k. k.now) l.path.items ++ rest) (each key_in (items_view (drop l.item-index l.items))) ≡ each key_in (items_view l.items)
