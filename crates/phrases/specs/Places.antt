-- Places: what columns of positions, one for each term in the order of offsets, reach.
use Rattle.std.specs.Prelude.{[], ⊤, ◌+◌, ◌-◌, ◌==◌, ◌∷◌, ◌≤◌, Bool, List, filter, if◌then◌else◌, length, nat_le, slice_index_or, take, ℕ}
use Rattle.std.specs.List.{list_any}
use Rattle.definitions.specs.JsonLeaves.{once}
use Rattle.definitions.specs.Phrases.{is_reached}
use Rattle.definitions.specs.Walking.{is_led_to}

-- the places of a phrase: the distinct positions of the last column to which a choice from the others leads within the slop
abbrev pub places_of : ℕ → List (List ℕ) → List ℕ
places_of slop columns = filter (is_reached (take (length columns - 1) columns) slop) (once ◌==◌ (slice_index_or columns (length columns - 1) []))

-- whether a position is among others
abbrev pub has : List ℕ → ℕ → Bool
has positions p = list_any (λ q. q == p) positions

-- positions from one on, none below the one before
abbrev pub Ascends : ℕ → List ℕ → Type 0
Ascends low [] = ⊤
Ascends low (p ∷ ps) = (low ≤ p) × Ascends p ps

-- positions from one on, each above the one before
abbrev pub Rises : ℕ → List ℕ → Type 0
Rises low [] = ⊤
Rises low (p ∷ ps) = (low ≤ p) × Rises (p + 1) ps

-- of ascending positions those that aren't below one, each once
abbrev pub distinct : ℕ → List ℕ → List ℕ
distinct next [] = []
distinct next (p ∷ ps) = if nat_le next p then p ∷ distinct (p + 1) ps else distinct next ps

-- the places that columns reach, the last of them first
abbrev pub reached : ℕ → List (List ℕ) → List ℕ
reached slop [] = []
reached slop (ps ∷ before) = filter (is_led_to before slop) (distinct 0 ps)

-- each of several columns ascends
abbrev pub AscendEach : List (List ℕ) → Type 0
AscendEach [] = ⊤
AscendEach (ps ∷ columns) = Ascends 0 ps × AscendEach columns
