-- The steps of the English stemmer, on words in which Y is no vowel.
use Rattle.std.specs.Prelude.{[], ◌&&◌, ◌++◌, ◌||◌, ◌∷◌, Bool, List, codes, if◌then◌else◌, length, nat_le, nat_lt, not, ℕ}
use Rattle.english_stems.specs.declared.regions.Regions.{Regions}
use Rattle.english_stems.specs.Letters.{has_vowel}
use Rattle.english_stems.specs.Regions.{ends_short}
use Rattle.english_stems.specs.Suffixes.{SuffixRule, begins_in, by_rules, cut, ends_in, ends_twice_in, has_suffix, off, to}

-- step 0: 's', 's and ' are left out
abbrev pub step_0_rules : List SuffixRule
step_0_rules = off (codes "'s'") ∷ off (codes "'s") ∷ off (codes "'") ∷ []

abbrev pub step_0 : List ℕ → List ℕ
step_0 w = by_rules 0 step_0_rules w

-- step 1a: sses becomes ss; ied and ies become i behind two letters or more, else ie; us and ss stay; s is left out where a vowel stands before it, but not just before it
abbrev pub plural_len : List ℕ → ℕ
plural_len w =
    if has_suffix (codes "sses") w then 2
    else if has_suffix (codes "ied") w || has_suffix (codes "ies") w then (if nat_lt 4 (length w) then 2 else 1)
    else if has_suffix (codes "us") w || has_suffix (codes "ss") w then 0
    else if has_suffix (codes "s") w && has_vowel (cut 2 w) then 1
    else 0

abbrev pub step_1a : List ℕ → List ℕ
step_1a w = cut (plural_len w) w

-- step 1b: eed and eedly become ee in the first region; ed, edly, ing and ingly are left out behind a vowel, and what stands there is mended
abbrev pub eed_rules : List SuffixRule
eed_rules = to (codes "eedly") (codes "ee") ∷ to (codes "eed") (codes "ee") ∷ []

-- the length of the longest of these suffixes
abbrev pub ed_len : List ℕ → ℕ
ed_len w =
    if has_suffix (codes "ed") w then 2
    else if has_suffix (codes "edly") w then 4
    else if has_suffix (codes "ing") w then 3
    else if has_suffix (codes "ingly") w then 5
    else 0

-- what is mended: an e behind at, bl and iz, a doubled letter once, and an e behind a short word, which ends short and has no first region
abbrev pub mended : ℕ → List ℕ → List ℕ
mended first w =
    if has_suffix (codes "at") w || has_suffix (codes "bl") w || has_suffix (codes "iz") w then w ++ codes "e"
    else if ends_twice_in (codes "bdfgmnprt") w then cut 1 w
    else if nat_le (length w) first && ends_short w then w ++ codes "e"
    else w

abbrev pub step_1b : ℕ → List ℕ → List ℕ
step_1b first w =
    if has_suffix (codes "eed") w || has_suffix (codes "eedly") w then by_rules first eed_rules w
    else if nat_lt 0 (ed_len w) && has_vowel (cut (ed_len w) w) then mended first (cut (ed_len w) w)
    else w

-- step 1c: y at the end becomes i, behind a letter that is no vowel and not the first one
abbrev pub ends_in_y : List ℕ → Bool
ends_in_y w = nat_lt 2 (length w) && ends_in (codes "yY") w && not (ends_in (codes "aeiouy") (cut 1 w))

abbrev pub step_1c : List ℕ → List ℕ
step_1c w = if ends_in_y w then cut 1 w ++ codes "i" else w

-- step 2, in the first region: the longest of these suffixes
abbrev pub step_2_rules : List SuffixRule
step_2_rules =
    to (codes "ational") (codes "ate") ∷ to (codes "fulness") (codes "ful") ∷ to (codes "ousness") (codes "ous") ∷
    to (codes "iveness") (codes "ive") ∷ to (codes "ization") (codes "ize") ∷ to (codes "tional") (codes "tion") ∷
    to (codes "biliti") (codes "ble") ∷ to (codes "lessli") (codes "less") ∷ to (codes "entli") (codes "ent") ∷ to (codes "ation") (codes "ate") ∷
    to (codes "alism") (codes "al") ∷ to (codes "aliti") (codes "al") ∷ to (codes "ousli") (codes "ous") ∷ to (codes "iviti") (codes "ive") ∷
    to (codes "fulli") (codes "ful") ∷ to (codes "enci") (codes "ence") ∷ to (codes "anci") (codes "ance") ∷ to (codes "abli") (codes "able") ∷
    to (codes "izer") (codes "ize") ∷ to (codes "ator") (codes "ate") ∷ to (codes "alli") (codes "al") ∷ to (codes "bli") (codes "ble") ∷
    (codes "l", codes "ogi", codes "og") ∷ (codes "cdeghkmnrt", codes "li", []) ∷ []

abbrev pub step_2 : ℕ → List ℕ → List ℕ
step_2 first w = by_rules first step_2_rules w

-- step 3: ative is left out in the second region; else in the first, the longest of these
abbrev pub step_3_rules : List SuffixRule
step_3_rules =
    to (codes "ational") (codes "ate") ∷ to (codes "tional") (codes "tion") ∷ to (codes "alize") (codes "al") ∷ to (codes "icate") (codes "ic") ∷
    to (codes "iciti") (codes "ic") ∷ to (codes "ical") (codes "ic") ∷ off (codes "ness") ∷ off (codes "ful") ∷ []

abbrev pub ative_rules : List SuffixRule
ative_rules = off (codes "ative") ∷ []

abbrev pub step_3 : Regions → List ℕ → List ℕ
step_3 r w = if has_suffix (codes "ative") w then by_rules r.second ative_rules w else by_rules r.first step_3_rules w

-- step 4, in the second region: the longest of these
abbrev pub step_4_rules : List SuffixRule
step_4_rules =
    off (codes "ement") ∷ off (codes "ance") ∷ off (codes "ence") ∷ off (codes "able") ∷ off (codes "ible") ∷ off (codes "ment") ∷
    off (codes "ant") ∷ off (codes "ent") ∷ off (codes "ism") ∷ off (codes "ate") ∷ off (codes "iti") ∷ off (codes "ous") ∷ off (codes "ive") ∷
    off (codes "ize") ∷ (codes "st", codes "ion", []) ∷ off (codes "al") ∷ off (codes "er") ∷ off (codes "ic") ∷ []

abbrev pub step_4 : ℕ → List ℕ → List ℕ
step_4 second w = by_rules second step_4_rules w

-- step 5: e is left out in the second region, and in the first behind no short syllable; l in the second behind another
abbrev pub loses_last : Regions → List ℕ → Bool
loses_last r w =
    if has_suffix (codes "e") w then begins_in r.second 1 w || (begins_in r.first 1 w && not (ends_short (cut 1 w)))
    else has_suffix (codes "ll") w && begins_in r.second 1 w

abbrev pub step_5 : Regions → List ℕ → List ℕ
step_5 r w = if loses_last r w then cut 1 w else w
