use Rattle.std.proofs.Common.{map}
use Rattle.definitions.specs.Replies.{count_reply}
use Rattle.serde_json.specs.View.{view}
use Rattle.shards.proofs.MergedReplies.{counts_merged}
use Rattle.shards.proofs.merged_replies.merged_text.Goals as goal

pub returns-in_ok-count_text-in-Some : goal.returns-in_ok-count_text-in-Some
returns-in_ok-count_text-in-Some c = (count_reply c.in-Some.total, counts_merged c.args.k (map view c.args.replies.now) c.in-Some.total c.in-Some.ensures, λ whole. c.in_ok-count_text-in-Some.ensures)
