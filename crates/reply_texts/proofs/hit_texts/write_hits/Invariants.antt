use Rattle.std.proofs.Common.{drop, map, ◌++◌, ◌≡◌}
use Rattle.definitions.specs.Replies.{hits_data}
use Rattle.json.specs.Tree.{items_tokens}
use Rattle.reply_texts.specs.ToldHits.{told}
use Rattle.segment_search.specs.Hits.{shown_hit}
use Rattle.serde_json.specs.Written.{items_outline}
use Rattle.reply_texts.proofs.hit_texts.write_hits.Given as goal

-- what is written so far, with the hits that are left
abbrev pub invariant-loop-hit : goal.invariant-loop-hit
invariant-loop-hit l =
    (l.out.before ≡ l.initial.out.before)
    × (l.out.tokens ++ items_tokens (items_outline (hits_data (map told (map (shown_hit l.schema) (drop l.hit-index l.hits))))) ≡ l.initial.out.tokens ++ items_tokens (items_outline (hits_data (map told (map (shown_hit l.schema) l.hits)))))
