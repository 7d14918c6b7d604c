-- Operators: words in capitals that stand before or between clauses, and what stands for them in other grammars.
use Rattle.std.specs.Prelude.{[], ◌&&◌, ◌==◌, ◌||◌, ◌∷◌, Bool, List, None, Option, Some, codes, false, if◌then◌else◌, length, nat_eq, true, ℕ}
use Rattle.std.specs.List.{list_any, starts_with}
use Rattle.query_text.specs.Heads.{is_marked}
use Rattle.query_text.specs.Pieces.{Piece, pieces_of}
use Rattle.query_text.specs.TypedMarks.{plain_of}
use Rattle.query_text.specs.declared.operators.Operator.{Operator}
use Rattle.query_text.specs.declared.operators.Operator.TheVariants as operators
use Rattle.query_text.specs.declared.pieces.Form.TheVariants as forms

-- whether a run is a word of so many letters
abbrev pub is_word : List ℕ → ℕ → List ℕ → Bool
is_word word letters run = starts_with nat_eq run word && nat_eq (length run) letters

-- the operator that a word is
abbrev pub operator_in : List ℕ → Option Operator
operator_in run = if is_word (codes "AND") 3 run then Some operators.And else (if is_word (codes "OR") 2 run then Some operators.Or else (if is_word (codes "NOT") 3 run then Some operators.Not else None))

-- whether it is `NOT`
abbrev pub is_not : Operator → Bool
is_not operators.Not = true
is_not _ = false

-- whether an operator can't stand right behind another: `AND NOT` and `OR NOT` can
abbrev pub cant_meet : Operator → Operator → Bool
cant_meet before operators.Not = is_not before
cant_meet before _ = true

-- whether a word, or what stands right before a phrase or a parenthesis, can't follow an operator
abbrev pub cant_follow : Operator → List ℕ → Bool
cant_follow before head = elim (operator_in head) [ None ↦ is_not before && is_marked head | Some operator ↦ cant_meet before operator ]

-- ---- in other grammars

-- whether a text begins with a byte
abbrev pub begins : ℕ → List ℕ → Bool
begins byte [] = false
begins byte (b ∷ bs) = b == byte

-- whether a byte stands beside itself, where it stands before the text or not
abbrev pub is_doubled : ℕ → Bool → List ℕ → Bool
is_doubled byte before [] = false
is_doubled byte before (b ∷ bs) = (before && (b == byte)) || is_doubled byte (b == byte) bs

-- whether a word has an operator of other grammars: `!` before it, `&&` or `||`
abbrev pub is_foreign : List ℕ → Bool
is_foreign text = begins 33 text || (is_doubled 38 false text || is_doubled 124 false text)

-- ---- small ones

-- whether a run is an operator in small letters, which is a word
abbrev pub is_small : List ℕ → Bool
is_small run = is_word (codes "and") 3 run || (is_word (codes "or") 2 run || is_word (codes "not") 3 run)

-- whether a piece is one
abbrev pub is_small_piece : Piece → Bool
is_small_piece piece = elim piece.form [ forms.Word ↦ is_small piece.head | _ ↦ false ]

-- whether a text has one
abbrev pub has_small : List ℕ → Bool
has_small text = list_any is_small_piece (pieces_of (plain_of text))
