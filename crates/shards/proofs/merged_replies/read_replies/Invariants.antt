-- What was read and what is left make the whole.
use Rattle.std.proofs.Common.{◌++◌, ◌≡◌, drop, map, option_map, string_bytes}
use Rattle.serde_json.specs.View.{view}
use Rattle.shards.specs.Replies.{readings}
use Rattle.shards.proofs.merged_replies.read_replies.Given as goal

abbrev pub invariant-loop-reply : goal.invariant-loop-reply
invariant-loop-reply l = option_map (λ rest. map view l.values.items ++ rest) (readings (map string_bytes (drop l.reply-index l.replies))) ≡ readings (map string_bytes l.replies)
