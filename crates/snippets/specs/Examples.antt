-- The pieces of the worked examples.
use Rattle.std.specs.Prelude.{[], ◌∷◌, List, None, Option, Some, codes, ℕ}
use Rattle.snippets.specs.Passages.{Piece}
use Prim.Native.String.{String}

-- a piece, its word, and the number of the word looked for that it has, where it has one
abbrev pub piece : String → String → Option ℕ → Piece
piece text word found = record { text = codes text; word = codes word; found = found }

-- three words, of which the second is looked for
abbrev pub old_quay_wall : List Piece
old_quay_wall = piece "old " "old" None ∷ piece "quay " "quay" (Some 0) ∷ piece "wall" "wall" None ∷ []
