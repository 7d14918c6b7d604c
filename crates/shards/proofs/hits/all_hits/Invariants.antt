-- What was listed and what is left make the whole.
use Rattle.std.proofs.Common.{◌++◌, ◌≡◌, drop, map, option_map}
use Rattle.serde_json.specs.View.{view}
use Rattle.shards.specs.Hits.{hits_of}
use Rattle.shards.specs.Replies.{each_of, hits_in, joined}
use Rattle.shards.proofs.hits.all_hits.Given as goal

abbrev pub invariant-loop-reply : goal.invariant-loop-reply
invariant-loop-reply l = option_map (λ lists. hits_of l.all.items ++ joined lists) (each_of hits_in (map view (drop l.reply-index l.replies))) ≡ option_map joined (each_of hits_in (map view l.replies))
