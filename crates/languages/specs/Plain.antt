-- Words without accents.
use Rattle.std.specs.Prelude.{[], ◌&&◌, ◌++◌, ◌==◌, ◌||◌, ◌∷◌, Bool, List, false, if◌then◌else◌, true, ℕ}
use Rattle.ucd_category.specs.declared.GeneralCategory.TheVariants.{NonspacingMark}
use Rattle.ucd_category.specs.GeneralCategory.{general_category, general_category_eq}
use Rattle.ucd_script.specs.declared.Script.{Script}
use Rattle.ucd_script.specs.declared.Script.TheVariants.{Greek, Latin}
use Rattle.ucd_script.specs.Script.{script}
use Rattle.unicode_normalization.specs.Forms.{nfc, nfd}
use Rattle.languages.specs.Characters.{is_mark}

-- the scripts whose letters lose their accents
abbrev pub is_plain_script : Script → Bool
is_plain_script Latin = true
is_plain_script Greek = true
is_plain_script _ = false

-- whether a letter loses its accents: a Latin or Greek one, and е, so that ё is е
abbrev pub loses_accents : ℕ → Bool
loses_accents c = is_plain_script (script c) || c == 0x435

-- the marks that are accents there
abbrev pub is_accent : ℕ → Bool
is_accent c = general_category_eq (general_category c) NonspacingMark

-- the letters that have no decomposition and stand for others: ø, æ, ł and đ
abbrev pub plain_letter : ℕ → List ℕ
plain_letter c =
    if c == 0xF8 then 0x6F ∷ []
    else if c == 0xE6 then 0x61 ∷ 0x65 ∷ []
    else if c == 0x142 then 0x6C ∷ []
    else if c == 0x111 then 0x64 ∷ []
    else c ∷ []

-- what is left of a character, where the letter before it loses its accents or not
abbrev pub bare : Bool → ℕ → List ℕ
bare loses c = if is_mark c then (if loses && is_accent c then [] else c ∷ []) else plain_letter c

-- whether the marks behind a character are lost
abbrev pub loses_behind : Bool → ℕ → Bool
loses_behind loses c = if is_mark c then loses else loses_accents c

-- what is left of characters
unfoldable pub without_accents : Bool → List ℕ → List ℕ
without_accents loses [] = []
without_accents loses (c ∷ cs) = bare loses c ++ without_accents (loses_behind loses c) cs

-- a word without accents
abbrev pub plain : List ℕ → List ℕ
plain word = nfc (without_accents false (nfd word))
