-- Rules: which of them a word meets, as the code tries them.
use Rattle.std.proofs.Common.{◌+◌, ◌<◌, ◌∙◌, ◌≡◌, ◌≤◌, Bool, List, None, Some, ap, bytes_eq, drop, false, get_or, length, sym, true, ℕ}
use Rattle.std.proofs.lemmas.Bool.{cond-false, cond-true}
use Rattle.std.proofs.lemmas.List.{drop_all, drop_more}
use Rattle.english_stems.specs.declared.stems.Form.{Form}
use Rattle.english_stems.specs.declared.suffixes.Rule.{Rule}
use Rattle.english_stems.specs.Stems.{exceptional, forms_of}
use Rattle.english_stems.specs.Suffixes.{by_rules, has_suffix, replaced, rule_of, rules_of}

-- ---- rules on suffixes

-- another suffix
pub rules-more : (start : ℕ) (rs : List Rule) (w text : List ℕ) (i : ℕ) (d : Rule) (has : Bool) → i < length rs → text ≡ w → has ≡ has_suffix (get_or rs i d).1.now text → has ≡ false → by_rules start (rules_of (drop (i + 1) rs)) w ≡ by_rules start (rules_of (drop i rs)) w
unfolding by_rules
rules-more start rs w text i d has inside same is other =
    sym (ap (λ rest. by_rules start (rules_of rest) w) (drop_more rs i d inside)
    ∙ cond-false _ _ _ (ap (has_suffix (get_or rs i d).1.now) (sym same) ∙ sym is ∙ other))

-- the suffix of the word
pub rules-found : (start : ℕ) (rs : List Rule) (w text : List ℕ) (i : ℕ) (d : Rule) (has : Bool) → i < length rs → text ≡ w → has ≡ has_suffix (get_or rs i d).1.now text → has ≡ true → replaced start (rule_of (get_or rs i d)) w ≡ by_rules start (rules_of (drop i rs)) w
unfolding by_rules
rules-found start rs w text i d has inside same is found =
    sym (ap (λ rest. by_rules start (rules_of rest) w) (drop_more rs i d inside)
    ∙ cond-true _ _ _ (ap (has_suffix (get_or rs i d).1.now) (sym same) ∙ sym is ∙ found))

-- and no more
pub rules-end : (start : ℕ) (rs : List Rule) (w : List ℕ) (i : ℕ) → length rs ≤ i → w ≡ by_rules start (rules_of (drop i rs)) w
unfolding by_rules
rules-end start rs w i past = sym (ap (λ rest. by_rules start (rules_of rest) w) (drop_all i rs past))

-- ---- words with stems of their own

-- another word
pub forms-more : (fs : List Form) (w : List ℕ) (i : ℕ) (d : Form) (same : Bool) → i < length fs → same ≡ bytes_eq w (get_or fs i d).0.now → same ≡ false → exceptional (forms_of (drop (i + 1) fs)) w ≡ exceptional (forms_of (drop i fs)) w
unfolding exceptional
forms-more fs w i d same inside is other =
    sym (ap (λ rest. exceptional (forms_of rest) w) (drop_more fs i d inside) ∙ cond-false _ _ _ (sym is ∙ other))

-- the word
pub forms-found : (fs : List Form) (w : List ℕ) (i : ℕ) (d : Form) (same : Bool) → i < length fs → same ≡ bytes_eq w (get_or fs i d).0.now → same ≡ true → Some (get_or fs i d).1.now ≡ exceptional (forms_of (drop i fs)) w
unfolding exceptional
forms-found fs w i d same inside is found =
    sym (ap (λ rest. exceptional (forms_of rest) w) (drop_more fs i d inside) ∙ cond-true _ _ _ (sym is ∙ found))

-- and no more
pub forms-end : (fs : List Form) (w : List ℕ) (i : ℕ) → length fs ≤ i → None ≡ exceptional (forms_of (drop i fs)) w
unfolding exceptional
forms-end fs w i past = sym (ap (λ rest. exceptional (forms_of rest) w) (drop_all i fs past))
