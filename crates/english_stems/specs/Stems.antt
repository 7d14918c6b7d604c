-- The stems of English words, by the algorithm that is known as Porter2.
use Rattle.std.specs.Prelude.{[], ◌∷◌, Bool, List, None, Option, Some, bytes_eq, codes, drop, if◌then◌else◌, length, map, nat_le, true, unwrap_or, ℕ}
use Rattle.std.specs.List.{list_any}
use Rattle.english_stems.specs.declared.stems.Form.{Form}
use Rattle.english_stems.specs.declared.regions.Regions.{Regions}
use Rattle.english_stems.specs.Letters.{marked, unmarked}
use Rattle.english_stems.specs.Regions.{regions}
use Rattle.english_stems.specs.Suffixes.{has_prefix}
use Rattle.english_stems.specs.Steps.{step_0, step_1a, step_1b, step_1c, step_2, step_3, step_4, step_5}

-- words with stems of their own
abbrev pub exceptions : List (List ℕ × List ℕ)
exceptions =
    (codes "skis", codes "ski") ∷ (codes "skies", codes "sky") ∷ (codes "dying", codes "die") ∷ (codes "lying", codes "lie") ∷
    (codes "tying", codes "tie") ∷ (codes "idly", codes "idl") ∷ (codes "gently", codes "gentl") ∷ (codes "ugly", codes "ugli") ∷
    (codes "early", codes "earli") ∷ (codes "only", codes "onli") ∷ (codes "singly", codes "singl") ∷ (codes "sky", codes "sky") ∷
    (codes "news", codes "news") ∷ (codes "howe", codes "howe") ∷ (codes "atlas", codes "atlas") ∷ (codes "cosmos", codes "cosmos") ∷
    (codes "bias", codes "bias") ∷ (codes "andes", codes "andes") ∷ []

-- the forms of the code
abbrev pub form_of : Form → List ℕ × List ℕ
form_of f = (f.0.now, f.1.now)

abbrev pub forms_of : List Form → List (List ℕ × List ℕ)
forms_of fs = map form_of fs

-- the stem of a word that has one of its own
unfoldable pub exceptional : List (List ℕ × List ℕ) → List ℕ → Option (List ℕ)
exceptional [] w = None
exceptional (e ∷ es) w = if bytes_eq w e.0 then Some e.1 else exceptional es w

-- words that end with step 1a
abbrev pub finals : List (List ℕ)
finals = codes "inning" ∷ codes "outing" ∷ codes "canning" ∷ codes "herring" ∷ codes "earring" ∷ codes "proceed" ∷ codes "exceed" ∷ codes "succeed" ∷ []

abbrev pub is_final : List ℕ → Bool
is_final w = list_any (λ final. bytes_eq w final) finals

-- the steps behind step 1a
abbrev pub later_steps : Regions → List ℕ → List ℕ
later_steps r w = step_5 r (step_4 r.second (step_3 r (step_2 r.first (step_1c (step_1b r.first w)))))

-- all steps, in the regions of the word before them
abbrev pub steps : Regions → List ℕ → List ℕ
steps r w =
    let singular = step_1a (step_0 w) in
    if is_final singular then singular else later_steps r singular

-- a word without the apostrophe that it begins with
abbrev pub without_apostrophe : List ℕ → List ℕ
without_apostrophe w = if has_prefix (codes "'") w then drop 1 w else w

-- the stem by the steps
abbrev pub regular_stem : List ℕ → List ℕ
regular_stem w =
    let letters = marked true (without_apostrophe w) in
    unmarked (steps (regions letters) letters)

-- a word of one or two letters is its stem
abbrev pub stem_of_letters : List ℕ → List ℕ
stem_of_letters w = if nat_le (length w) 2 then w else regular_stem w

-- the stem of a word: its own, or by the steps
abbrev pub stem : List ℕ → List ℕ
stem w = unwrap_or (exceptional exceptions w) (stem_of_letters w)
