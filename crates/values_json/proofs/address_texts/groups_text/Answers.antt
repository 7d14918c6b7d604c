-- Each group but the first stands behind a colon.
use Rattle.std.proofs.Common.{[], List, ap, drop, get_or, string_bytes, sym, ◌++◌, ◌+◌, ◌∙◌, ◌∷◌, ℕ}
use Rattle.std.proofs.lemmas.List.{at_drop_more}
use Rattle.values_json.proofs.GroupsWritten.{group_text, later_groups, next_group}
use Rattle.values_json.proofs.address_texts.groups_text.Goals as goal

pub loop-shift-preserved : goal.loop-shift-preserved
loop-shift-preserved c =
    let l = c.loop-shift in
    let n = c.args.address in
    let i = l.shift-index in
    let items : List ℕ = 96 ∷ 80 ∷ 64 ∷ 48 ∷ 32 ∷ 16 ∷ 0 ∷ [] in
    let shift = get_or items i 0 in
    let before = string_bytes l.text in
    let rest = later_groups n (drop (i + 1) items) in
    let one = at_drop_more (λ ls. before ++ later_groups n ls) items i 0 c.loop-shift-test.true in
    let pushed = c.in_ok-push_group-2.ensures ∙ ap (λ t. t ++ group_text n shift) c.in_ok-push_str.ensures.bytes in
    ap (λ t. t ++ rest) pushed ∙ next_group n shift (drop (i + 1) items) before ∙ sym one ∙ l.invariant
