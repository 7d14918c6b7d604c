-- How a text is cut into pieces: words, phrases and parentheses, each with what stands right beside it.
use Rattle.std.specs.Prelude.{[], ◌+◌, ◌++◌, ◌==◌, ◌∷◌, List, if◌then◌else◌, nat_le, ℕ}
use Rattle.query_text.specs.declared.pieces.Class.{Class}
use Rattle.query_text.specs.declared.pieces.Class.TheVariants as classes
use Rattle.query_text.specs.declared.pieces.Form.{Form}
use Rattle.query_text.specs.declared.pieces.Form.TheVariants as forms

-- what a byte is outside of quotation marks: a space, any of `"`, `(` and `)`, or a part of a word
abbrev pub class_of : ℕ → Class
class_of b = if nat_le b 32 then classes.Gap else (if b == 34 then classes.Quote else (if b == 40 then classes.Opening else (if b == 41 then classes.Closing else classes.Part)))

-- A piece, and where it begins. `head` is a whole word, or what stands right before a phrase or an opening parenthesis;
-- `text` is what a phrase has between its quotation marks; `tail` is what stands right behind a phrase or a closing one.
pub record Piece : Type 0 where
  pub form : Form
  pub offset : ℕ
  pub head : List ℕ
  pub text : List ℕ
  pub tail : List ℕ

-- a piece of a form at an offset, with what stands before it, and else empty
abbrev pub bare : Form → ℕ → List ℕ → Piece
bare form offset head = record { form = form; offset = offset; head = head; text = []; tail = [] }

-- Where the cutting stands: between pieces, in a run that began somewhere, in a phrase, or behind a phrase or a
-- parenthesis, with the bytes so far.
pub data Mode : Type 0 where
  between : Mode
  running : ℕ → List ℕ → Mode
  quoting : ℕ → List ℕ → List ℕ → Mode
  trailing : Piece → List ℕ → Mode

-- what a byte begins that goes on with nothing before it
abbrev pub begun : ℕ → ℕ → Mode
begun offset b = elim (class_of b) [ classes.Gap ↦ between | classes.Opening ↦ between | classes.Quote ↦ quoting offset [] [] | classes.Closing ↦ trailing (bare forms.Close offset []) [] | classes.Part ↦ running offset (b ∷ []) ]

-- an opening parenthesis is a piece by itself
abbrev pub alone : ℕ → ℕ → List Piece
alone offset b = elim (class_of b) [ classes.Opening ↦ bare forms.Open offset [] ∷ [] | _ ↦ [] ]

-- where the cutting stands behind one more byte
abbrev pub after : Mode → ℕ → ℕ → Mode
after between offset b = begun offset b
after (running start run) offset b = elim (class_of b) [ classes.Part ↦ running start (run ++ b ∷ []) | classes.Quote ↦ quoting start run [] | classes.Opening ↦ between | _ ↦ begun offset b ]
after (quoting start head text) offset b = if b == 34 then trailing (record { form = forms.Quoted; offset = start; head = head; text = text; tail = [] }) [] else quoting start head (text ++ b ∷ [])
after (trailing piece tail) offset b = elim (class_of b) [ classes.Part ↦ trailing piece (tail ++ b ∷ []) | _ ↦ begun offset b ]

-- the pieces that are whole once that byte is read
abbrev pub done : Mode → ℕ → ℕ → List Piece
done between offset b = alone offset b
done (running start run) offset b = elim (class_of b) [ classes.Part ↦ [] | classes.Quote ↦ [] | classes.Opening ↦ bare forms.Open start run ∷ [] | _ ↦ bare forms.Word start run ∷ [] ]
done (quoting start head text) offset b = []
done (trailing piece tail) offset b = elim (class_of b) [ classes.Part ↦ [] | _ ↦ record piece { tail = tail } ∷ alone offset b ]

-- the piece that the end of the text ends
abbrev pub last : Mode → List Piece
last between = []
last (running start run) = bare forms.Word start run ∷ []
last (quoting start head text) = bare forms.Unclosed start head ∷ []
last (trailing piece tail) = record piece { tail = tail } ∷ []

-- the pieces of what is left of a text
abbrev pub pieces_from : Mode → ℕ → List ℕ → List Piece
pieces_from mode offset [] = last mode
pieces_from mode offset (b ∷ bs) = done mode offset b ++ pieces_from (after mode offset b) (offset + 1) bs

-- the pieces of a text
abbrev pub pieces_of : List ℕ → List Piece
pieces_of text = pieces_from between 0 text
