-- What was added up and what is left make the whole.
use Rattle.std.proofs.Common.{◌*◌, ◌+◌, ◌≡◌, ◌≤◌, drop, map, option_map, sum}
use Rattle.serde_json.specs.View.{view}
use Rattle.shards.specs.Replies.{count_in, each_of}
use Rattle.shards.proofs.counts.total_count.Given as goal

abbrev pub invariant-loop-reply : goal.invariant-loop-reply
invariant-loop-reply l = record {
  fits : l.total ≤ l.reply-index * 18446744073709551615;
  whole : option_map (λ counts. l.total + sum counts) (each_of count_in (map view (drop l.reply-index l.replies))) ≡ option_map sum (each_of count_in (map view l.replies));
}
