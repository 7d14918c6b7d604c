-- Pieces and modes of the code, as the definitions have them.
use Rattle.std.specs.Prelude.{◌≤◌, List, slice_range, ℕ}
use Rattle.query_text.specs.Pieces as definitions
use Rattle.query_text.specs.declared.pieces.Mode.{Mode}
use Rattle.query_text.specs.declared.pieces.Mode.TheVariants.{Between, Quoting, Running, Trailing}
use Rattle.query_text.specs.declared.pieces.Piece.{Piece}

-- a piece
abbrev pub piece_of : Piece → definitions.Piece
piece_of p = record { form = p.form; offset = p.offset; head = p.head.now; text = p.text.now; tail = p.tail.now }

-- where the cutting of a text stands before a byte
abbrev pub mode_at : List ℕ → ℕ → Mode → definitions.Mode
mode_at text offset Between = definitions.between
mode_at text offset (Running start) = definitions.running start (slice_range text start offset)
mode_at text offset (Quoting start head from) = definitions.quoting start head.now (slice_range text from offset)
mode_at text offset (Trailing piece from) = definitions.trailing (piece_of piece) (slice_range text from offset)

-- what began did so before that byte
abbrev pub HasBegun : ℕ → Mode → Type 0
HasBegun offset Between = Unit {0}
HasBegun offset (Running start) = start ≤ offset
HasBegun offset (Quoting start head from) = from ≤ offset
HasBegun offset (Trailing piece from) = from ≤ offset
