-- How a snippet is shown: each word that is looked for between brackets, and two dots where the text goes on.
use Rattle.std.specs.Prelude.{[], ◌++◌, ◌-◌, ◌∷◌, List, bytes_eq, chars, codes, drop, encode_utf8, if◌then◌else◌, length, nat_le, nat_lt, slice_range, take, ℕ}
use Rattle.std.specs.Char.{is_control, len_utf8}
use Rattle.std.specs.List.{flat_map}
use Rattle.std.specs.Option.{is_some}
use Rattle.snippets.specs.Passages.{Piece, max_passage_len}

-- a character: a space in place of a control character
abbrev pub shown_char : ℕ → ℕ
shown_char c = if is_control c then 32 else c

-- characters, as UTF-8
abbrev pub shown_chars : List ℕ → List ℕ
shown_chars cs = flat_map (λ c. encode_utf8 (shown_char c)) cs

-- a text, character by character
abbrev pub shown_text : List ℕ → List ℕ
shown_text s = shown_chars (chars s)

-- a word between brackets, and what stands behind it
abbrev pub shown_marked : List ℕ → List ℕ → List ℕ
shown_marked word rest = codes "[" ++ (shown_text word ++ (codes "]" ++ shown_text rest))

-- what stands in a piece behind the word with which it begins
abbrev pub behind_word : Piece → List ℕ
behind_word p = if bytes_eq (take (length p.word) p.text) p.word then drop (length p.word) p.text else []

-- a piece: its word stands between brackets if it has one that is looked for
abbrev pub shown_piece : Piece → List ℕ
shown_piece p = if is_some p.found then shown_marked p.word (behind_word p) else shown_text p.text

-- the characters from the first on that have room together
abbrev pub begun : ℕ → List ℕ → List ℕ
begun room [] = []
begun room (c ∷ cs) = if nat_le (len_utf8 c) room then c ∷ begun (room - len_utf8 c) cs else []

-- the beginning of the first of a text's pieces
abbrev pub shown_beginning : List Piece → List ℕ
shown_beginning [] = []
shown_beginning (p ∷ ps) = shown_chars (begun max_passage_len (chars p.text))

-- those of a text's pieces that are a passage; if there are none, since the first is longer than one, its beginning
abbrev pub shown_passage : List Piece → List Piece → List ℕ
shown_passage [] ps = shown_beginning ps
shown_passage (q ∷ qs) ps = flat_map shown_piece (q ∷ qs)

-- what stands before a passage that begins with the piece of an index
abbrev pub shown_before : ℕ → List ℕ
shown_before start = if nat_lt 0 start then codes " .. " else codes " "

-- what stands behind a passage that ends before the piece of an index, of `count` pieces
abbrev pub shown_behind : ℕ → ℕ → List ℕ
shown_behind end count = if nat_lt end count then codes ".." else []

-- a snippet: of a text's pieces those from one to before another, behind a space
abbrev pub shown_snippet : List Piece → ℕ → ℕ → List ℕ
shown_snippet ps start end = shown_before start ++ (shown_passage (slice_range ps start end) ps ++ shown_behind end (length ps))
