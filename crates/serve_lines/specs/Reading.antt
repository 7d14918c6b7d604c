-- What is taken of the input, and what is kept of a line while it is read.
use Rattle.std.specs.Prelude.{◌≡◌, ◌≢◌, ℕ, ◌<◌, Bool, true, false, Option, None, Some, List, [], ◌∷◌, ◌++◌, length, All}
use Rattle.std.specs.Io.KnownBytes.{Consumes, IsAtEnd, Keeps}
use Rattle.definitions.specs.Lines.{max_line_len, lines_of}
use Rattle.serve_lines.specs.declared.line_buffer.Keeping.{Keeping}
use Rattle.serve_lines.specs.declared.line_buffer.Keeping.TheVariants as keeping
use Rattle.serve_lines.specs.declared.line_buffer.LineBuffer.{LineBuffer}
use Rattle.serve_lines.specs.declared.line_reader.Chunk.{Chunk}
use Rattle.serve_lines.specs.declared.line_reader.Chunk.TheVariants as chunk

-- the bytes lie within one line
abbrev pub HasNoNewline : List ℕ → Type 0
HasNoNewline bytes = All (λ byte. byte ≢ 10) bytes

-- what is kept, where the bytes seen of the line are these
abbrev pub IsKept : Keeping → List ℕ → List ℕ → Type 0
IsKept keeping.Whole kept seen = kept ≡ seen
IsKept keeping.TooLong kept seen = max_line_len < length seen
IsKept keeping.NoMemory kept seen = 0 < length seen

-- the buffer may hold a line of which these bytes were seen
abbrev pub Holds : LineBuffer → List ℕ → Type 0
Holds line seen = IsKept line.keeping line.bytes.items seen

-- the buffer was given these bytes too
abbrev pub Adds : LineBuffer → LineBuffer → List ℕ → Type 0
Adds old new part = (seen : List ℕ) → Holds old seen → Holds new (seen ++ part)

-- one look at the reader took this part of a line
abbrev pub TakesChunk : Chunk → Option (List ℕ) → Option (List ℕ) → List ℕ → Type 0
TakesChunk chunk.Part old new part = Consumes old new part
TakesChunk chunk.Rest old new part = Consumes old new (part ++ 10 ∷ [])
TakesChunk chunk.End old new part = (part ≡ []) × IsAtEnd old × Keeps old new

-- one look at the reader moved a part of a line into the buffer
abbrev pub MovesChunk : Chunk → Option (List ℕ) → Option (List ℕ) → LineBuffer → LineBuffer → Type 0
MovesChunk chunk old new line line' =
    (part : List ℕ) × HasNoNewline part × TakesChunk chunk old new part × Adds line line' part

-- the first line was taken, which the buffer then holds, or there was none
abbrev pub TakesLine : Bool → LineBuffer → Option (List ℕ) → Option (List ℕ) → Type 0
TakesLine found held None new = Unit {0}
TakesLine found held (Some old) None = ⊥
TakesLine true held (Some old) (Some new) =
    (line : List ℕ) × Holds held line × (lines_of old ≡ line ∷ lines_of new)
TakesLine false held (Some old) (Some new) = lines_of old ≡ []
