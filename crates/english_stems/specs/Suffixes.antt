-- The ends of words, and rules on them.
use Rattle.std.specs.Prelude.{[], ◌&&◌, ◌++◌, ◌-◌, ◌==◌, ◌||◌, ◌∷◌, Bool, List, bytes_eq, drop, if◌then◌else◌, length, map, nat_le, take, ℕ}
use Rattle.std.specs.List.{list_any}
use Rattle.english_stems.specs.declared.suffixes.Rule.{Rule}

-- whether a word begins with letters, and whether it ends with them
abbrev pub has_prefix : List ℕ → List ℕ → Bool
has_prefix prefix w = bytes_eq (take (length prefix) w) prefix

abbrev pub has_suffix : List ℕ → List ℕ → Bool
has_suffix suffix w = bytes_eq (drop (length w - length suffix) w) suffix

-- whether the last letter is one of these, and whether it is and stands there twice
abbrev pub ends_in : List ℕ → List ℕ → Bool
ends_in letters w = list_any (λ c. has_suffix (c ∷ []) w) letters

abbrev pub ends_twice_in : List ℕ → List ℕ → Bool
ends_twice_in letters w = list_any (λ c. has_suffix (c ∷ c ∷ []) w) letters

-- a word without its last letters
abbrev pub cut : ℕ → List ℕ → List ℕ
cut n w = take (length w - n) w

-- whether the last letters are of the region that begins at an index
abbrev pub begins_in : ℕ → ℕ → List ℕ → Bool
begins_in start n w = nat_le start (length w - n)

-- the letters of which one must stand before a suffix (any may, where there are none), the suffix, and what takes its place
abbrev pub SuffixRule : Type 0
SuffixRule = List ℕ × List ℕ × List ℕ

-- a rule for a suffix behind any letter, and one for a suffix that is left out
abbrev pub to : List ℕ → List ℕ → SuffixRule
to suffix ending = ([], suffix, ending)

abbrev pub off : List ℕ → SuffixRule
off suffix = ([], suffix, [])

-- the rules of the code
abbrev pub rule_of : Rule → SuffixRule
rule_of r = (r.0.now, r.1.now, r.2.now)

abbrev pub rules_of : List Rule → List SuffixRule
rules_of rs = map rule_of rs

-- a word that has the suffix of a rule, by it
abbrev pub replaced : ℕ → SuffixRule → List ℕ → List ℕ
replaced start (letters, suffix, ending) w =
    let stem = cut (length suffix) w in
    if begins_in start (length suffix) w && (length letters == 0 || ends_in letters stem) then stem ++ ending else w

-- a word by the first rule whose suffix it has
unfoldable pub by_rules : ℕ → List SuffixRule → List ℕ → List ℕ
by_rules start [] w = w
by_rules start (r ∷ rs) w = if has_suffix r.1 w then replaced start r w else by_rules start rs w
