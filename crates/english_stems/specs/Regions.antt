-- The regions of English words, in which suffixes must stand, and their short syllables.
use Rattle.std.specs.Prelude.{[], ◌&&◌, ◌+◌, ◌==◌, ◌||◌, ◌∷◌, Bool, List, codes, drop, false, if◌then◌else◌, length, not, ℕ}
use Rattle.english_stems.specs.declared.regions.Regions.{Regions}
use Rattle.english_stems.specs.Letters.{is_vowel}
use Rattle.english_stems.specs.Suffixes.{cut, ends_in, has_prefix}

-- the index behind the first letter that is no vowel and stands behind one, or the length where there is none
unfoldable pub region : Bool → List ℕ → ℕ
region behind_vowel [] = 0
region behind_vowel (c ∷ cs) = if behind_vowel && not (is_vowel c) then 1 else 1 + region (is_vowel c) cs

-- where the first region begins: there, but behind gener, arsen and commun in words that begin so
abbrev pub first_region : List ℕ → ℕ
first_region w =
    if has_prefix (codes "gener") w || has_prefix (codes "arsen") w then 5
    else if has_prefix (codes "commun") w then 6
    else region false w

-- both regions: the second is the region of the first
abbrev pub regions : List ℕ → Regions
regions w = record { first = first_region w; second = first_region w + region false (drop (first_region w) w) }

-- a short syllable at the end: other letter, vowel, other letter but w, x and Y; and a vowel and another letter that are the whole word
abbrev pub ends_short : List ℕ → Bool
ends_short w =
    if length w == 2 then ends_in (codes "aeiouy") (cut 1 w) && not (ends_in (codes "aeiouy") w)
    else not (ends_in (codes "aeiouy") (cut 2 w)) && ends_in (codes "aeiouy") (cut 1 w) && not (ends_in (codes "aeiouywxY") w)
