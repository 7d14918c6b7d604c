-- What was read and what is left make the whole.
use Rattle.std.proofs.Common.{◌++◌, ◌≡◌, drop, option_map}
use Rattle.definitions.specs.Json.{each}
use Rattle.serde_json.specs.View.{items_view}
use Rattle.shards.specs.Hits.{hits_of}
use Rattle.shards.specs.Replies.{scored}
use Rattle.shards.proofs.hits.scored_items.Given as goal

abbrev pub invariant-loop-item : goal.invariant-loop-item
invariant-loop-item l = option_map (λ rest. hits_of l.hits.items ++ rest) (each scored (items_view (drop l.item-index l.items))) ≡ each scored (items_view l.items)
