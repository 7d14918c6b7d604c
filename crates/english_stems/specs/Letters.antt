-- The letters of English words as the stemmer takes them: Y is the y of yes, which is no vowel.
use Rattle.std.specs.Prelude.{[], ◌&&◌, ◌==◌, ◌||◌, ◌∷◌, Bool, List, if◌then◌else◌, map, ℕ}
use Rattle.std.specs.List.{list_any}

-- a, e, i, o, u and y
abbrev pub is_vowel : ℕ → Bool
is_vowel c = c == 0x61 || c == 0x65 || c == 0x69 || c == 0x6F || c == 0x75 || c == 0x79

-- whether one of the letters is a vowel
abbrev pub has_vowel : List ℕ → Bool
has_vowel w = list_any is_vowel w

-- y is no vowel where it is the first letter or behind a vowel: there it is written Y
abbrev pub marked_letter : Bool → ℕ → ℕ
marked_letter behind c = if behind && c == 0x79 then 0x59 else c

-- the letters from one on that is the first or behind a vowel, or neither
unfoldable pub marked : Bool → List ℕ → List ℕ
marked behind [] = []
marked behind (c ∷ cs) = marked_letter behind c ∷ marked (is_vowel (marked_letter behind c)) cs

-- Y is y again
abbrev pub unmarked_letter : ℕ → ℕ
unmarked_letter c = if c == 0x59 then 0x79 else c

abbrev pub unmarked : List ℕ → List ℕ
unmarked w = map unmarked_letter w
