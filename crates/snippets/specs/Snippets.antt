-- Snippets: the best passage of a text, and where in it the words stand that are looked for.
use Rattle.std.specs.Prelude.{[], ◌+◌, ◌≡◌, ◌≤◌, ◌∷◌, Bool, List, None, Option, Some, bytes_eq, false, if◌then◌else◌, length, map, nat_eq, slice_range, take, ℕ}
use Rattle.std.specs.List.{list_any}
use Rattle.definitions.specs.Values.{Token}
use Rattle.snippets.specs.Cutting.{cut, word_of}
use Rattle.snippets.specs.Passages.{Piece, max_passage_len, shown, size}

-- a word that is looked for, or the beginning of words
pub record Word : Type 0 where
  pub text : List ℕ
  pub is_prefix : Bool

-- whether the text of a token is such a word
abbrev pub is_word : Word → List ℕ → Bool
is_word w s = bytes_eq (if w.is_prefix then take (length w.text) s else s) w.text

-- whether a token is such a word
abbrev pub has_word : Word → List Token → Bool
has_word w ts = list_any (λ t. is_word w t.text) ts

-- the number of the first of the words that tokens have, counted from a number on
abbrev pub found_from : ℕ → List Word → List Token → Option ℕ
found_from i [] ts = None
found_from i (w ∷ ws) ts = if has_word w ts then Some i else found_from (i + 1) ws ts

-- what is left of tokens behind those that have the texts of others
abbrev pub behind : List Token → List Token → Option (List Token)
behind ts [] = Some ts
behind [] (u ∷ us) = None
behind (t ∷ ts) (u ∷ us) = if bytes_eq t.text u.text then behind ts us else None

-- whether tokens are those of pieces, one behind the other, by their texts
abbrev pub are_tokens_of : (List ℕ → List Token) → List (List ℕ) → List Token → Bool
are_tokens_of analyze [] ts = nat_eq (length ts) 0
are_tokens_of analyze (p ∷ ps) ts = elim (behind ts (analyze p)) [ None ↦ false | Some rest ↦ are_tokens_of analyze ps rest ]

-- a part of a text, and the word with which it begins
abbrev pub Part : Type 0
Part = List ℕ × List ℕ

-- pieces, each with its word
abbrev pub with_words : List (List ℕ) → List Part
with_words ps = map (λ p. (p, word_of p)) ps

-- the parts of a text: its pieces, where their tokens are those of the text; else the text is one part, and its word
abbrev pub parts_of : (List ℕ → List Token) → List ℕ → List Part
parts_of analyze s = if are_tokens_of analyze (cut s) (analyze s) then with_words (cut s) else (s, s) ∷ []

-- a part of a text, with the first word that tokens have
abbrev pub piece_with : Part → List Word → List Token → Piece
piece_with part words ts = record { text = part.0; word = part.1; found = found_from 0 words ts }

-- a part of a text, with the first word that the analyzer's tokens of it have
abbrev pub marked : (List ℕ → List Token) → List Word → Part → Piece
marked analyze words part = piece_with part words (analyze part.0)

-- the parts of a text, each with the word that it has
abbrev pub marked_pieces : (List ℕ → List Token) → List Word → List ℕ → List Piece
marked_pieces analyze words s = map (marked analyze words) (parts_of analyze s)

-- some pieces of a text, of which those from one to before another are shown
pub record IsSnippet (analyze : List ℕ → List Token) (words : List Word) (s : List ℕ) (pieces : List Piece) (start end : ℕ) : Type 0 where
  -- they are the whole text's, and each has the word that its tokens have
  pub pieces_are : pieces ≡ marked_pieces analyze words s
  pub within : (start ≤ end) × (end ≤ length pieces)
  pub short : size (slice_range pieces start end) ≤ max_passage_len
  -- no other passage shows more of the words
  pub best : (i j : ℕ) → i ≤ j → j ≤ length pieces → size (slice_range pieces i j) ≤ max_passage_len → shown (length words) (slice_range pieces i j) ≤ shown (length words) (slice_range pieces start end)
