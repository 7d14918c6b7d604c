-- What holds of the letters of a word and of ASCII ones holds of those of its stem: a law.
use Rattle.std.proofs.Common.{[], ◌&&◌, ◌++◌, ◌-◌, ◌<◌, ◌==◌, ◌∙◌, ◌∷◌, ◌≡◌, ◌||◌, Bool, List, Some, ap, bytes_eq, codes, drop, length, lit<, nat_le, nat_lt, refl, sym, take, true, ℕ}
use Rattle.std.specs.List.{list_all}
use Rattle.std.specs.Prelude.{unwrap_or}
use Rattle.std.proofs.lemmas.Bool.{and_from, and_parts, cond_both}
use Rattle.std.proofs.lemmas.Bool.Decides.{Decides-ltb}
use Rattle.std.proofs.lemmas.List.{take-append-drop}
use Rattle.std.proofs.lemmas.List.Folds.{list_all-append}
use Rattle.english_stems.specs.declared.regions.Regions.{Regions}
use Rattle.english_stems.specs.Letters.{has_vowel, is_vowel, marked, marked_letter, unmarked}
use Rattle.english_stems.specs.Regions.{ends_short, regions}
use Rattle.english_stems.specs.Stems.{exceptional, exceptions, is_final, later_steps, regular_stem, stem, stem_of_letters, steps, without_apostrophe}
use Rattle.english_stems.specs.Steps.{ative_rules, ed_len, eed_rules, ends_in_y, loses_last, mended, plural_len, step_0, step_0_rules, step_1a, step_1b, step_1c, step_2, step_2_rules, step_3, step_3_rules, step_4, step_4_rules, step_5}
use Rattle.english_stems.specs.Suffixes.{SuffixRule, begins_in, by_rules, cut, ends_in, ends_twice_in, has_prefix, has_suffix, replaced}

-- a test that each ASCII letter passes
abbrev pub PassesAscii : (ℕ → Bool) → Type 0
PassesAscii test = (c : ℕ) → c < 128 → test c ≡ true

-- a list whose letters all pass it
abbrev Passes : (ℕ → Bool) → List ℕ → Type 0
Passes test w = list_all test w ≡ true

-- ---- parts and ASCII texts

abbrev are_ascii : List ℕ → Bool
are_ascii text = list_all (λ c. nat_lt c 128) text

ascii_passes : (test : ℕ → Bool) → PassesAscii test → (text : List ℕ) → are_ascii text ≡ true → Passes test text
ascii_passes test ascii [] h = refl
ascii_passes test ascii (c ∷ text) h =
    let each = and_parts (nat_lt c 128) (are_ascii text) h in
    and_from _ _ (ascii c ((Decides-ltb c 128).0 each.0)) (ascii_passes test ascii text each.1)

both_pass : (test : ℕ → Bool) (xs ys : List ℕ) → Passes test xs → Passes test ys → Passes test (xs ++ ys)
both_pass test xs ys front back = list_all-append test xs ys ∙ and_from _ _ front back

parts_pass : (test : ℕ → Bool) (n : ℕ) (w : List ℕ) → Passes test w → Passes test (take n w) × Passes test (drop n w)
parts_pass test n w h = and_parts (list_all test (take n w)) (list_all test (drop n w)) (sym (list_all-append test (take n w) (drop n w)) ∙ ap (list_all test) (take-append-drop n w) ∙ h)

cut_passes : (test : ℕ → Bool) (n : ℕ) (w : List ℕ) → Passes test w → Passes test (cut n w)
cut_passes test n w h = (parts_pass test (length w - n) w h).0

-- ---- rules

abbrev endings_are_ascii : List SuffixRule → Bool
endings_are_ascii rs = list_all (λ r. are_ascii r.2) rs

rules_pass : (test : ℕ → Bool) → PassesAscii test → (start : ℕ) (rs : List SuffixRule) (w : List ℕ) → endings_are_ascii rs ≡ true → Passes test w → Passes test (by_rules start rs w)
unfolding by_rules
rules_pass test ascii start [] w endings h = h
rules_pass test ascii start ((letters, suffix, ending) ∷ rs) w endings h =
    let each = and_parts (are_ascii ending) (endings_are_ascii rs) endings in
    cond_both (has_suffix suffix w) (replaced start (letters, suffix, ending) w) (by_rules start rs w) (Passes test)
    (λ _. cond_both (begins_in start (length suffix) w && (length letters == 0 || ends_in letters (cut (length suffix) w))) (cut (length suffix) w ++ ending) w (Passes test)
    (λ _. both_pass test (cut (length suffix) w) ending (cut_passes test (length suffix) w h) (ascii_passes test ascii ending each.0)) (λ _. h))
    (λ _. rules_pass test ascii start rs w each.1 h)

-- ---- steps

mended_passes : (test : ℕ → Bool) → PassesAscii test → (first : ℕ) (w : List ℕ) → Passes test w → Passes test (mended first w)
mended_passes test ascii first w h =
    let longer : Passes test (w ++ codes "e") = both_pass test w (codes "e") h (ascii_passes test ascii (codes "e") refl) in
    cond_both (has_suffix (codes "at") w || has_suffix (codes "bl") w || has_suffix (codes "iz") w) (w ++ codes "e") _ (Passes test) (λ _. longer)
    (λ _. cond_both (ends_twice_in (codes "bdfgmnprt") w) (cut 1 w) _ (Passes test) (λ _. cut_passes test 1 w h)
    (λ _. cond_both (nat_le (length w) first && ends_short w) (w ++ codes "e") w (Passes test) (λ _. longer) (λ _. h)))

step_1b_passes : (test : ℕ → Bool) → PassesAscii test → (first : ℕ) (w : List ℕ) → Passes test w → Passes test (step_1b first w)
step_1b_passes test ascii first w h =
    cond_both (has_suffix (codes "eed") w || has_suffix (codes "eedly") w) (by_rules first eed_rules w) _ (Passes test)
    (λ _. rules_pass test ascii first eed_rules w refl h)
    (λ _. cond_both (nat_lt 0 (ed_len w) && has_vowel (cut (ed_len w) w)) (mended first (cut (ed_len w) w)) w (Passes test)
    (λ _. mended_passes test ascii first (cut (ed_len w) w) (cut_passes test (ed_len w) w h)) (λ _. h))

step_1c_passes : (test : ℕ → Bool) → PassesAscii test → (w : List ℕ) → Passes test w → Passes test (step_1c w)
step_1c_passes test ascii w h =
    cond_both (ends_in_y w) (cut 1 w ++ codes "i") w (Passes test)
    (λ _. both_pass test (cut 1 w) (codes "i") (cut_passes test 1 w h) (ascii_passes test ascii (codes "i") refl)) (λ _. h)

step_3_passes : (test : ℕ → Bool) → PassesAscii test → (r : Regions) (w : List ℕ) → Passes test w → Passes test (step_3 r w)
step_3_passes test ascii r w h =
    cond_both (has_suffix (codes "ative") w) (by_rules r.second ative_rules w) (by_rules r.first step_3_rules w) (Passes test)
    (λ _. rules_pass test ascii r.second ative_rules w refl h) (λ _. rules_pass test ascii r.first step_3_rules w refl h)

step_5_passes : (test : ℕ → Bool) (r : Regions) (w : List ℕ) → Passes test w → Passes test (step_5 r w)
step_5_passes test r w h = cond_both (loses_last r w) (cut 1 w) w (Passes test) (λ _. cut_passes test 1 w h) (λ _. h)

later_passes : (test : ℕ → Bool) → PassesAscii test → (r : Regions) (w : List ℕ) → Passes test w → Passes test (later_steps r w)
later_passes test ascii r w h =
    let behind_1b = step_1b r.first w in
    let behind_1c = step_1c behind_1b in
    let behind_2 = step_2 r.first behind_1c in
    let behind_3 = step_3 r behind_2 in
    step_5_passes test r (step_4 r.second behind_3)
    (rules_pass test ascii r.second step_4_rules behind_3 refl
    (step_3_passes test ascii r behind_2
    (rules_pass test ascii r.first step_2_rules behind_1c refl
    (step_1c_passes test ascii behind_1b (step_1b_passes test ascii r.first w h)))))

steps_pass : (test : ℕ → Bool) → PassesAscii test → (r : Regions) (w : List ℕ) → Passes test w → Passes test (steps r w)
steps_pass test ascii r w h =
    let without = step_0 w in
    let singular = step_1a without in
    let passes : Passes test singular = cut_passes test (plural_len without) without (rules_pass test ascii 0 step_0_rules w refl h) in
    cond_both (is_final singular) singular (later_steps r singular) (Passes test) (λ _. passes) (λ _. later_passes test ascii r singular passes)

-- ---- y and Y

marked_passes : (test : ℕ → Bool) → PassesAscii test → (behind : Bool) (w : List ℕ) → Passes test w → Passes test (marked behind w)
unfolding marked
marked_passes test ascii behind [] h = refl
marked_passes test ascii behind (c ∷ cs) h =
    let each = and_parts (test c) (list_all test cs) h in
    and_from _ _ (cond_both (behind && c == 0x79) 0x59 c (λ d. test d ≡ true) (λ _. ascii 0x59 (lit< tt)) (λ _. each.0))
    (marked_passes test ascii (is_vowel (marked_letter behind c)) cs each.1)

unmarked_passes : (test : ℕ → Bool) → PassesAscii test → (w : List ℕ) → Passes test w → Passes test (unmarked w)
unmarked_passes test ascii [] h = refl
unmarked_passes test ascii (c ∷ cs) h =
    let each = and_parts (test c) (list_all test cs) h in
    and_from _ _ (cond_both (c == 0x59) 0x79 c (λ d. test d ≡ true) (λ _. ascii 0x79 (lit< tt)) (λ _. each.0)) (unmarked_passes test ascii cs each.1)

-- ---- stems

abbrev forms_are_ascii : List (List ℕ × List ℕ) → Bool
forms_are_ascii es = list_all (λ e. are_ascii e.1) es

exceptional_passes : (test : ℕ → Bool) → PassesAscii test → (es : List (List ℕ × List ℕ)) (w other : List ℕ) → forms_are_ascii es ≡ true → Passes test other → Passes test (unwrap_or (exceptional es w) other)
unfolding exceptional
exceptional_passes test ascii [] w other forms h = h
exceptional_passes test ascii ((word, form) ∷ es) w other forms h =
    let each = and_parts (are_ascii form) (forms_are_ascii es) forms in
    cond_both (bytes_eq w word) (Some form) (exceptional es w) (λ found. Passes test (unwrap_or found other))
    (λ _. ascii_passes test ascii form each.0) (λ _. exceptional_passes test ascii es w other each.1 h)

regular_passes : (test : ℕ → Bool) → PassesAscii test → (w : List ℕ) → Passes test w → Passes test (regular_stem w)
regular_passes test ascii w h =
    let letters = marked true (without_apostrophe w) in
    let bare : Passes test (without_apostrophe w) = cond_both (has_prefix (codes "'") w) (drop 1 w) w (Passes test) (λ _. (parts_pass test 1 w h).1) (λ _. h) in
    unmarked_passes test ascii (steps (regions letters) letters) (steps_pass test ascii (regions letters) letters (marked_passes test ascii true (without_apostrophe w) bare))

-- what each ASCII letter passes and each letter of a word, each letter of its stem passes
pub stem_passes : (test : ℕ → Bool) → PassesAscii test → (w : List ℕ) → list_all test w ≡ true → list_all test (stem w) ≡ true
stem_passes test ascii w h =
    exceptional_passes test ascii exceptions w (stem_of_letters w) refl
    (cond_both (nat_le (length w) 2) w (regular_stem w) (Passes test) (λ _. h) (λ _. regular_passes test ascii w h))
