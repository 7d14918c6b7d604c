-- What was read and what is left make the whole.
use Rattle.std.proofs.Common.{drop, option_map, ◌++◌, ◌≡◌}
use Rattle.definitions.specs.Json.{each, number_below}
use Rattle.definitions.specs.QueryGrammar.{offset_limit}
use Rattle.serde_json.specs.View.{items_view}
use Rattle.query_checks.proofs.json_phrases.read_each_offset.Given as goal

abbrev pub invariant-loop-item : goal.invariant-loop-item
invariant-loop-item l = option_map (λ rest. l.offsets.items ++ rest) (each (number_below offset_limit) (items_view (drop l.item-index l.items))) ≡ each (number_below offset_limit) (items_view l.items)
