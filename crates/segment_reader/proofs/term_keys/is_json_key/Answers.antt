use Rattle.std.proofs.Common.{Bool, List, Some, ap, false, refl, sym, take, true, ◌&&◌, ◌==◌, ◌∙◌, ◌≡◌, ℕ}
use Rattle.std.specs.List.{after_first, before_first, position, position_or_len}
use Rattle.std.specs.Prelude.{length, nat_lt}
use Rattle.std.specs.Str.{is_utf8}
use Rattle.std.proofs.lemmas.Option.{cond_some}
use Rattle.segment_definitions.specs.Keys.{is_leaf}
use Rattle.terms.proofs.TextKeys.{found_behind, none_behind}
use Rattle.segment_reader.proofs.term_keys.is_json_key.Goals as goal

-- what stands before the first that passes
found_before : (test : ℕ → Bool) (bs : List ℕ) (end : ℕ) → Some end ≡ position test bs → take end bs ≡ before_first test bs
found_before test bs end found = ap (λ k. take k bs) (sym (cond_some (nat_lt (position_or_len test bs) (length bs)) (position_or_len test bs) end (sym found)).1)

and_false : (b : Bool) → false ≡ (b && false)
and_false true = refl
and_false false = refl

pub returns-then-is_text : goal.returns-then-is_text
returns-then-is_text c =
    let key = c.args.key.now in
    let text : is_utf8 (before_first (◌==◌ 0) key) ≡ true = ap is_utf8 (sym (found_before (◌==◌ 0) key c.in-Some.end c.in-Some.ensures)) ∙ sym c.is_text.ensures ∙ c.if-is_text.true in
    c.is_leaf.ensures ∙ ap is_leaf (found_behind (◌==◌ 0) key c.in-Some.end c.in-Some.ensures) ∙ ap (λ b. b && is_leaf (after_first (◌==◌ 0) key)) (sym text)

pub returns-else-is_text : goal.returns-else-is_text
returns-else-is_text c =
    let key = c.args.key.now in
    let text : is_utf8 (before_first (◌==◌ 0) key) ≡ false = ap is_utf8 (sym (found_before (◌==◌ 0) key c.in-Some.end c.in-Some.ensures)) ∙ sym c.is_text.ensures ∙ c.if-is_text.false in
    c.if-is_text.false ∙ ap (λ b. b && is_leaf (after_first (◌==◌ 0) key)) (sym text)

pub returns-in-None : goal.returns-in-None
returns-in-None c =
    let key = c.args.key.now in
    and_false (is_utf8 (before_first (◌==◌ 0) key)) ∙ ap (λ leaf. is_utf8 (before_first (◌==◌ 0) key) && is_leaf leaf) (none_behind (◌==◌ 0) key c.in-None.ensures)
