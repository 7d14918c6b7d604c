use Rattle.std.proofs.Common.{MatchOption, None, Option, Some, String, Global, ap, map, refl, string_bytes, subst, sym, ◌∙◌, ◌≡◌}
use Rattle.definitions.proofs.ReplyTexts.{hits_float}
use Rattle.definitions.specs.Replies.{count_reply, hits_reply}
use Rattle.definitions.specs.Scanning.{scan, scan_count}
use Rattle.serde_json.specs.View.{view}
use Rattle.shards.proofs.MergedReplies.{Tells, counts_of_all_merged, searches_merged, text_merged}
use Rattle.shards.specs.Replies.{joined, merged}
use Rattle.shards.proofs.merged_replies.merge_replies.Goals as goal

pub returns-in-Some-clause-search : goal.returns-in-Some-clause-search
returns-in-Some-clause-search c schema analyze sim q j lists enough some is =
    let read = map view c.deref.result.now in
    let was = c.in_ok-values.ensures.ok ∙ ap (λ vs. Some (map view vs)) (sym c.deref.ensures.value) in
    let tells : Tells c.args.k read (string_bytes c.in-Some.text) = subst (λ (o : Option (String Global)). MatchOption o (merged c.args.k read ≡ None) (λ text. Tells c.args.k read (string_bytes text))) c.in-Some.is c.in_ok-text.ensures in
    let all = scan schema analyze sim (joined lists) q c.args.k in
    text_merged c.args.k (map string_bytes c.args.replies.now) read (map (λ docs. hits_reply (scan schema analyze sim docs q j)) lists) (string_bytes c.in-Some.text) (hits_reply all) was tells is (searches_merged schema analyze sim q c.args.k j lists enough some) (hits_float all)

pub returns-in-Some-clause-count : goal.returns-in-Some-clause-count
returns-in-Some-clause-count c schema analyze q lists is =
    let read = map view c.deref.result.now in
    let was = c.in_ok-values.ensures.ok ∙ ap (λ vs. Some (map view vs)) (sym c.deref.ensures.value) in
    let tells : Tells c.args.k read (string_bytes c.in-Some.text) = subst (λ (o : Option (String Global)). MatchOption o (merged c.args.k read ≡ None) (λ text. Tells c.args.k read (string_bytes text))) c.in-Some.is c.in_ok-text.ensures in
    text_merged c.args.k (map string_bytes c.args.replies.now) read (map (λ docs. count_reply (scan_count schema analyze docs q)) lists) (string_bytes c.in-Some.text) (count_reply (scan_count schema analyze (joined lists) q)) was tells is (counts_of_all_merged schema analyze q c.args.k lists) refl

pub returns-in-Some-clause-merged : goal.returns-in-Some-clause-merged
returns-in-Some-clause-merged c =
    let read = map view c.deref.result.now in
    let was = c.in_ok-values.ensures.ok ∙ ap (λ vs. Some (map view vs)) (sym c.deref.ensures.value) in
    let tells : Tells c.args.k read (string_bytes c.in-Some.text) = subst (λ (o : Option (String Global)). MatchOption o (merged c.args.k read ≡ None) (λ text. Tells c.args.k read (string_bytes text))) c.in-Some.is c.in_ok-text.ensures in
    (read, tells.0, was, tells.1, tells.2)

pub returns-clause-unlike : goal.returns-clause-unlike
returns-clause-unlike c =
    let read = map view c.deref.result.now in
    let was = c.in_ok-values.ensures.ok ∙ ap (λ vs. Some (map view vs)) (sym c.deref.ensures.value) in
    let none : merged c.args.k read ≡ None = subst (λ (o : Option (String Global)). MatchOption o (merged c.args.k read ≡ None) (λ text. Tells c.args.k read (string_bytes text))) c.in-None.is c.in_ok-text.ensures in
    λ same. (read, was, none)
