-- Facets as one text.
use Rattle.std.specs.Prelude.{[], ◌==◌, ◌∷◌, List, if◌then◌else◌, ℕ}
use Rattle.std.specs.List.{slice_split}
use Rattle.definitions.specs.Facets.{escaped, slash}

-- the steps, between each two of which stands U+0000
abbrev pub steps_of : List ℕ → List (List ℕ)
steps_of text = slice_split (λ b. b == 0) text

-- a byte of that text in the path of the facet
abbrev pub in_path : ℕ → List ℕ
in_path b = if b == 0 then slash ∷ [] else escaped (b ∷ [])
