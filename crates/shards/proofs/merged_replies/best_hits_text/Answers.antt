use Rattle.std.proofs.Common.{ap, map, option_map, sym, ◌∙◌}
use Rattle.serde_json.specs.View.{view}
use Rattle.shards.specs.Hits.{hits_of}
use Rattle.shards.specs.Replies.{hits_told}
use Rattle.shards.proofs.MergedReplies.{hits_searched}
use Rattle.shards.proofs.merged_replies.best_hits_text.Goals as goal

pub returns-in_ok-hits_text-in-Some : goal.returns-in_ok-hits_text-in-Some
returns-in_ok-hits_text-in-Some c =
    let hits = hits_of c.in-Some.hits.items in
    let best = hits_of c.deref.result.now in (
      hits_told best,
      hits_searched c.args.k (map view c.args.replies.now) hits best
          (sym (ap (option_map (λ v. hits_of v.items)) c.in-Some.is) ∙ c.in_ok-hits.ensures)
          (ap hits_of c.deref.ensures.value ∙ c.in_ok-keep_best-in-Some.ensures),
      c.in_ok-hits_text-in-Some.ensures,
    )
