-- What is known of lines: how they are taken from the input, and why they are refused.
use Rattle.std.proofs.Common.{◌≡◌, ◌≢◌, ℕ, ◌≤◌, Bool, true, false, not, cond, IsTrue, ◌↔◌, Option, None, Some, List, [], ◌∷◌, ◌++◌, length, refl, sym, ap, ◌∙◌, append_assoc, append-nil, ne_eqb, true≢false}
use Rattle.std.proofs.lemmas.Bool.{le-ltb}
use Rattle.std.proofs.lemmas.List.Elements.{All-head, All-tail, All-append}
use Rattle.std.specs.Str.{IsUtf8, is_utf8}
use Rattle.std.proofs.lemmas.Str.{is_utf8-from_IsUtf8, IsUtf8-from_is_utf8}
use Rattle.std.specs.Io.KnownBytes.{Consumes, IsAtEnd, Keeps}
use Rattle.std.proofs.KnownBytes.{Consumes-trans}
use Rattle.definitions.specs.Lines.{max_line_len, lines_of}
use Rattle.std.specs.List.{onto_first}
use Rattle.definitions.specs.declared.fault.Fault.TheVariants as faults
use Rattle.serve_lines.specs.declared.line_buffer.LineBuffer.{LineBuffer}
use Rattle.serve_lines.specs.Reading.{HasNoNewline, Holds, TakesLine}
use Rattle.definitions.specs.Replying.{line_refusal}

-- the test for text fails where the bytes are no text
is_utf8_false : (bytes : List ℕ) → ¬ IsUtf8 bytes → is_utf8 bytes ≡ false
is_utf8_false bytes h = at (is_utf8 bytes) refl
  where
    at : (t : Bool) → is_utf8 bytes ≡ t → t ≡ false
    at true e = absurd (h (IsUtf8-from_is_utf8 bytes e))
    at false e = refl

-- why a line that isn't too long is refused
line_refusal-within : (line : List ℕ) → length line ≤ max_line_len → line_refusal line ≡ cond (is_utf8 line) None (Some faults.BadRequest)
line_refusal-within line within =
    ap (λ b. cond b (Some faults.LineTooLong) (cond (is_utf8 line) None (Some faults.BadRequest))) (le-ltb max_line_len (length line) within)

-- a text that isn't too long isn't refused
pub line_refusal-text : (line : List ℕ) → length line ≤ max_line_len → IsUtf8 line → line_refusal line ≡ None
line_refusal-text line within text =
    line_refusal-within line within ∙ ap (λ b. cond b None (Some faults.BadRequest)) (is_utf8-from_IsUtf8 line text)

-- bytes that are no text are refused
pub line_refusal-bytes : (line : List ℕ) → length line ≤ max_line_len → ¬ IsUtf8 line → line_refusal line ≡ Some faults.BadRequest
line_refusal-bytes line within bytes =
    line_refusal-within line within ∙ ap (λ b. cond b None (Some faults.BadRequest)) (is_utf8_false line bytes)

-- a line before its newline is the first of the lines
pub lines_of-line : (line rest : List ℕ) → HasNoNewline line → lines_of (line ++ 10 ∷ rest) ≡ line ∷ lines_of rest
lines_of-line [] rest clean = refl
lines_of-line (x ∷ xs) rest clean =
    ap (λ b. cond b ([] ∷ lines_of (xs ++ 10 ∷ rest)) (onto_first x (lines_of (xs ++ 10 ∷ rest)))) (ne_eqb x 10 (All-head (λ y. y ≢ 10) x xs clean))
    ∙ ap (onto_first x) (lines_of-line xs rest (All-tail (λ y. y ≢ 10) x xs clean))

-- bytes without a newline are one line, unless there are none
pub lines_of-last : (x : ℕ) (xs : List ℕ) → HasNoNewline (x ∷ xs) → lines_of (x ∷ xs) ≡ (x ∷ xs) ∷ []
lines_of-last x [] clean = ap (λ b. cond b ([] ∷ []) ((x ∷ []) ∷ [])) (ne_eqb x 10 (All-head (λ y. y ≢ 10) x [] clean))
lines_of-last x (y ∷ ys) clean =
    ap (λ b. cond b ([] ∷ lines_of (y ∷ ys)) (onto_first x (lines_of (y ∷ ys)))) (ne_eqb x 10 (All-head (λ z. z ≢ 10) x (y ∷ ys) clean))
    ∙ ap (onto_first x) (lines_of-last y ys (All-tail (λ z. z ≢ 10) x (y ∷ ys) clean))

-- the rest of a line was taken with its newline
pub TakesLine-rest : (a b c : Option (List ℕ)) (line : LineBuffer) (seen part : List ℕ)
    → Consumes a b seen → HasNoNewline seen → Consumes b c (part ++ 10 ∷ []) → HasNoNewline part → Holds line (seen ++ part) → TakesLine true line a c
TakesLine-rest None b c line seen part first clean second clean' held = tt
TakesLine-rest (Some x) None c line seen part first clean second clean' held = absurd first
TakesLine-rest (Some x) (Some y) None line seen part first clean second clean' held = absurd second
TakesLine-rest (Some x) (Some y) (Some z) line seen part first clean second clean' held =
    let joined : x ≡ (seen ++ part) ++ 10 ∷ z =
    Consumes-trans (Some x) (Some y) (Some z) seen (part ++ 10 ∷ []) first second
    ∙ append_assoc seen (part ++ 10 ∷ []) z ∙ ap (λ l. seen ++ l) (append_assoc part (10 ∷ []) z) ∙ sym (append_assoc seen part (10 ∷ z)) in
    (seen ++ part, held, ap lines_of joined ∙ lines_of-line (seen ++ part) z (All-append (λ y. y ≢ 10) seen part clean clean'))

-- the input ended after these bytes of a line
pub TakesLine-end : (a b c : Option (List ℕ)) (line : LineBuffer) (seen : List ℕ) (empty : Bool)
    → Consumes a b seen → HasNoNewline seen → IsAtEnd b → Keeps b c → Holds line seen → (IsTrue empty ↔ (seen ≡ [])) → TakesLine (not empty) line a c
TakesLine-end None b c line seen empty first clean end same held is = tt
TakesLine-end (Some x) None c line seen empty first clean end same held is = absurd first
TakesLine-end (Some x) (Some y) None line seen empty first clean end same held is = absurd same
TakesLine-end (Some x) (Some y) (Some z) line seen true first clean end same held is =
    ap lines_of (first ∙ ap (λ l. seen ++ l) end ∙ append-nil seen ∙ is.0 refl)
TakesLine-end (Some x) (Some y) (Some z) line [] false first clean end same held is = absurd (true≢false (sym (is.1 refl)))
TakesLine-end (Some x) (Some y) (Some z) line (byte ∷ bytes) false first clean end same held is =
    let all = byte ∷ bytes in (
      all,
      held,
      ap lines_of (first ∙ ap (λ l. all ++ l) end ∙ append-nil all) ∙ lines_of-last byte bytes clean
          ∙ ap (λ l. all ∷ lines_of l) (sym (same ∙ end)),
    )
