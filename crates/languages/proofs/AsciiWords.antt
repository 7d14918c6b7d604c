-- ASCII texts: how they are folded, and that their words have no accents.
use Rattle.std.proofs.Common.{[], ◌++◌, ◌<◌, ◌==◌, ◌∙◌, ◌∷◌, ◌≡◌, ◌≤◌, All, Bool, IsAscii, List, ap, ap₂, arith, chars, false, le_of_suc-le-suc, lit≤, map, not, not-suc-le-zero, refl, subst, suc, suc-le-suc, sym, true, zero, zero-le, ℕ}
use Rattle.std.proofs.lemmas.Bool.{and_parts, cond-false, false_from_ne_true}
use Rattle.std.proofs.lemmas.Bool.Decides.{Decides-eqb, Decides-ltb, nat_tests}
use Rattle.std.proofs.lemmas.Str.{chars-IsAscii}
use Rattle.std.specs.Char.{is_ascii, to_ascii_lowercase}
use Rattle.std.specs.List.{list_all}
use Rattle.ucd_category.specs.declared.GeneralCategoryGroup.TheVariants.{Mark}
use Rattle.ucd_category.specs.GeneralCategory.{general_category}
use Rattle.ucd_category.specs.GeneralCategoryGroup.{in_group}
use Rattle.ucd_category.proofs.GeneralCategoryLemmas.{general_category_stepped}
use Rattle.ucd_table.proofs.Computing.{tables}
use Rattle.ucd_table.proofs.Facts.{Stepped-below}
use Rattle.unicode_normalization.specs.Forms.{Nfc, Nfd, Nfkc, Nfkd, nfc, nfkc, nfkd}
use Rattle.unicode_normalization.proofs.FormsLemmas.{normalize-ascii}
use Rattle.caseless.specs.Caseless.{default_case_fold}
use Rattle.caseless.proofs.CaselessLemmas.{All-chars, default_case_fold-ascii, default_case_fold_idem}
use Rattle.languages.specs.Characters.{is_mark}
use Rattle.languages.specs.Folding.{folded}
use Rattle.languages.specs.Plain.{bare, loses_behind, plain, plain_letter, without_accents}

abbrev AreAscii : List ℕ → Type 0
AreAscii cs = All (λ c. c < 128) cs

-- ---- folding

lower_ascii : (c : ℕ) → c < 128 → to_ascii_lowercase c < 128
lower_ascii c h = grind (arith, nat_tests)

lowered_ascii : (cs : List ℕ) → AreAscii cs → AreAscii (map to_ascii_lowercase cs)
lowered_ascii [] all k d lt = absurd (not-suc-le-zero lt)
lowered_ascii (c ∷ cs) all zero d lt = lower_ascii c (all zero 0 (suc-le-suc zero-le))
lowered_ascii (c ∷ cs) all (suc k) d lt = lowered_ascii cs (λ j e below. all (suc j) e (suc-le-suc below)) k d (le_of_suc-le-suc lt)

-- an ASCII text is folded by its letters alone
letters_folded : (s : List ℕ) → IsAscii s → folded (chars s) ≡ map to_ascii_lowercase (chars s)
letters_folded s ascii =
    let cs = chars s in
    let all = All-chars s ascii in
    let lowered = default_case_fold-ascii cs all in
    let low : AreAscii (default_case_fold cs) = subst AreAscii (sym lowered) (lowered_ascii cs all) in
    ap (λ l. nfkc (default_case_fold (nfkd (default_case_fold l)))) (normalize-ascii Nfd cs all)
    ∙ ap (λ l. nfkc (default_case_fold l)) (normalize-ascii Nfkd (default_case_fold cs) low)
    ∙ ap nfkc (default_case_fold_idem cs)
    ∙ normalize-ascii Nfkc (default_case_fold cs) low
    ∙ lowered

pub folded-ascii : (s : List ℕ) → IsAscii s → map to_ascii_lowercase s ≡ folded (chars s)
folded-ascii s ascii = sym (letters_folded s ascii ∙ ap (map to_ascii_lowercase) (chars-IsAscii s ascii))

-- ---- words without accents

from_not : (b : Bool) → not b ≡ true → b ≡ false
from_not true h = sym h
from_not false h = refl

not_mark : (c : ℕ) → c < 128 → is_mark c ≡ false
unfolding tables general_category_stepped
not_mark c h = from_not (is_mark c) (Stepped-below general_category general_category_stepped (λ _ v. not (in_group Mark v)) 128 refl c h)

differs : (c n : ℕ) → c < 128 → 128 ≤ n → (c == n) ≡ false
differs c n h above = false_from_ne_true (c == n) (λ e. absurd (omega (arith, (Decides-eqb c n).0 e)))

same_letter : (c : ℕ) → c < 128 → plain_letter c ≡ c ∷ []
same_letter c h =
    cond-false _ _ _ (differs c 0xF8 h (lit≤ tt))
    ∙ cond-false _ _ _ (differs c 0xE6 h (lit≤ tt))
    ∙ cond-false _ _ _ (differs c 0x142 h (lit≤ tt))
    ∙ cond-false _ _ _ (differs c 0x111 h (lit≤ tt))

bare-ascii : (loses : Bool) (c : ℕ) → c < 128 → bare loses c ≡ c ∷ []
bare-ascii loses c h = cond-false _ _ _ (not_mark c h) ∙ same_letter c h

without-ascii : (loses : Bool) (cs : List ℕ) → AreAscii cs → without_accents loses cs ≡ cs
unfolding without_accents
without-ascii loses [] all = refl
without-ascii loses (c ∷ cs) all =
    ap₂ ◌++◌ (bare-ascii loses c (all zero 0 (suc-le-suc zero-le))) (without-ascii (loses_behind loses c) cs (λ k d lt. all (suc k) d (suc-le-suc lt)))

are_ascii : (cs : List ℕ) → list_all is_ascii cs ≡ true → AreAscii cs
are_ascii [] h k d lt = absurd (not-suc-le-zero lt)
are_ascii (c ∷ cs) h zero d lt = (Decides-ltb c 128).0 (and_parts (is_ascii c) (list_all is_ascii cs) h).0
are_ascii (c ∷ cs) h (suc k) d lt = are_ascii cs (and_parts (is_ascii c) (list_all is_ascii cs) h).1 k d (le_of_suc-le-suc lt)

-- an ASCII word has no accents
pub plain-ascii : (w : List ℕ) → list_all is_ascii w ≡ true → w ≡ plain w
plain-ascii w h =
    let all = are_ascii w h in
    sym (ap (λ l. nfc (without_accents false l)) (normalize-ascii Nfd w all) ∙ ap nfc (without-ascii false w all) ∙ normalize-ascii Nfc w all)
