-- What is shown, step by step: one character more, the beginning of a text, a piece, some of a text's pieces.
use Rattle.std.proofs.Common.{[], ◌<◌, ◌++◌, ◌-◌, ◌∙◌, ◌∷◌, ◌≡◌, ◌≤◌, Bool, IsUtf8, List, None, Option, Some, ap, ap₂, append-nil, append_assoc, arith, bytes_eq, chars, drop, encode_utf8, false, flat_map, inl, inr, is_some, if◌then◌else◌, leb-false, leb-true, length, length-drop, map, min, nat_le, refl, slice_get, slice_range, subst, suc, sym, take, take-append-drop, take_at, true, true≢false, zero, ◌==◌, ℕ}
use Rattle.std.specs.Str.Pattern.{FindsTextPrefix, LacksTextAt, StripsPrefix}
use Rattle.std.specs.Char.{len_utf8}
use Rattle.std.proofs.lemmas.Bool.{cases_lt}
use Rattle.std.proofs.lemmas.Bool.Decides.{nat_tests}
use Rattle.std.proofs.lemmas.List.{drop-map, drop_all, flat_map_more, take-map, take_min}
use Rattle.std.proofs.lemmas.Slice.Eq.{bytes_eq-Decides}
use Rattle.std.proofs.lemmas.Str.{chars-nil, chars_past_char}
use Rattle.snippets.specs.Passages.{Piece, max_passage_len}
use Rattle.snippets.specs.ShownTexts.{behind_word, begun, shown_beginning, shown_char, shown_chars, shown_marked, shown_passage, shown_piece, shown_text}
use Rattle.snippets.specs.Views.{piece_of}
use Rattle.snippets.specs.declared.passages.Piece as code

-- ---- characters

-- one character more is shown
pub one_more : (now before out cs : List ℕ) (c d : ℕ) → now ≡ before ++ encode_utf8 d → d ≡ shown_char c → before ≡ out ++ shown_chars cs → now ≡ out ++ shown_chars (cs ++ c ∷ [])
one_more now before out cs c d pushed is so = pushed ∙ ap (λ x. before ++ encode_utf8 x) is ∙ ap (λ bs. bs ++ encode_utf8 (shown_char c)) so ∙ flat_map_more (λ x. encode_utf8 (shown_char x)) out cs c

-- ---- the beginning of a text

-- what there is room for
some_room : (m room : ℕ) (cs : List ℕ) (b : Bool) → nat_le m room ≡ b → m ≤ room → (if b then cs else []) ≡ cs
some_room m room cs true e h = refl
some_room m room cs false e h = absurd (omega (arith, leb-false m room e, h))

-- what there is none for
no_room : (m room : ℕ) (cs : List ℕ) (b : Bool) → nat_le m room ≡ b → room < m → (if b then cs else []) ≡ []
no_room m room cs true e h = absurd (omega (arith, leb-true m room e, h))
no_room m room cs false e h = refl

-- the first character, if there is room for it
begun_more : (room c n : ℕ) (cs : List ℕ) → n ≡ len_utf8 c → n ≤ room → begun room (c ∷ cs) ≡ c ∷ begun (room - n) cs
begun_more room c n cs is fits = subst (λ k. begun room (c ∷ cs) ≡ c ∷ begun (room - k) cs) (sym is) (some_room (len_utf8 c) room (c ∷ begun (room - len_utf8 c) cs) (nat_le (len_utf8 c) room) refl (subst (λ k. k ≤ room) is fits))

-- if there is none
begun_full : (room c n : ℕ) (cs : List ℕ) → n ≡ len_utf8 c → room < n → begun room (c ∷ cs) ≡ []
begun_full room c n cs is full = no_room (len_utf8 c) room (c ∷ begun (room - len_utf8 c) cs) (nat_le (len_utf8 c) room) refl (subst (λ k. room < k) is full)

-- an empty text has no characters
no_chars : (s : List ℕ) → length s ≡ 0 → chars s ≡ []
no_chars [] e = chars-nil
no_chars (b ∷ bs) e = absurd (omega (arith, e))

-- a character that has room is shown, and the beginning goes on behind it
pub begun_on : (now before all text rest : List ℕ) (c d n room : ℕ) → IsUtf8 text → text ≡ encode_utf8 c ++ rest → n ≡ len_utf8 c → n ≤ room → now ≡ before ++ encode_utf8 d → d ≡ shown_char c → before ++ shown_chars (begun room (chars text)) ≡ all → now ++ shown_chars (begun (room - n) (chars rest)) ≡ all
begun_on now before all text rest c d n room utf parts is fits pushed shown so =
    let first : begun room (chars text) ≡ c ∷ begun (room - n) (chars rest) = ap (begun room) (chars_past_char text rest c utf parts) ∙ begun_more room c n (chars rest) is fits in
    ap (λ bs. bs ++ shown_chars (begun (room - n) (chars rest))) (pushed ∙ ap (λ x. before ++ encode_utf8 x) shown)
    ∙ append_assoc before (encode_utf8 (shown_char c)) (shown_chars (begun (room - n) (chars rest)))
    ∙ sym (ap (λ cs. before ++ shown_chars cs) first)
    ∙ so

-- the beginning ends before a character that has no room
pub begun_before : (before all text rest : List ℕ) (c n room : ℕ) → IsUtf8 text → text ≡ encode_utf8 c ++ rest → n ≡ len_utf8 c → room < n → before ++ shown_chars (begun room (chars text)) ≡ all → before ≡ all
begun_before before all text rest c n room utf parts is full so =
    sym (append-nil before)
    ∙ ap (λ cs. before ++ shown_chars cs) (sym (ap (begun room) (chars_past_char text rest c utf parts) ∙ begun_full room c n (chars rest) is full))
    ∙ so

-- it ends with the text
pub begun_whole : (before all text : List ℕ) (room : ℕ) → length text ≡ 0 → before ++ shown_chars (begun room (chars text)) ≡ all → before ≡ all
begun_whole before all text room e so = sym (append-nil before) ∙ ap (λ cs. before ++ shown_chars (begun room cs)) (sym (no_chars text e)) ∙ so

-- it is that of the first piece
pub beginning_of : (ps : List code.Piece) (p : code.Piece) → Some p ≡ slice_get ps 0 → shown_chars (begun max_passage_len (chars p.text.now)) ≡ shown_beginning (map piece_of ps)
beginning_of [] p e = absurd (cc)
beginning_of (q ∷ ps) p e = ap (λ (r : code.Piece). shown_chars (begun max_passage_len (chars r.text.now))) (the_same p q e)
  where
    the_same : (x y : code.Piece) → Some x ≡ Some y → x ≡ y
    the_same x y h = cc

-- without a piece there is none
pub no_beginning : (ps : List code.Piece) → None ≡ slice_get ps 0 → [] ≡ shown_beginning (map piece_of ps)
no_beginning [] e = refl
no_beginning (q ∷ ps) e = absurd (cc)

-- ---- a piece

-- what is behind its word
pub rest_behind : (text word rest : List ℕ) → StripsPrefix (FindsTextPrefix word) text rest → rest ≡ (if bytes_eq (take (length word) text) word then drop (length word) text else [])
rest_behind text word rest h =
    let first : take (length word) text ≡ word = ap (take (length word)) h.1.1 ∙ take_at word (drop h.0 text) (length word) refl in
    h.2 ∙ ap (λ k. drop k text) h.1.0 ∙ sym (chosen (bytes_eq (take (length word) text) word) (drop (length word) text) ((bytes_eq-Decides (take (length word) text) word).1 first))
  where
    chosen : (b : Bool) (xs : List ℕ) → b ≡ true → (if b then xs else []) ≡ xs
    chosen true xs e = refl
    chosen false xs e = absurd (cc)

-- nothing, if it doesn't begin with that
pub nothing_behind : (text word : List ℕ) → LacksTextAt word text 0 → [] ≡ (if bytes_eq (take (length word) text) word then drop (length word) text else [])
nothing_behind text word none = go (bytes_eq (take (length word) text) word) refl
  where
    go : (b : Bool) → bytes_eq (take (length word) text) word ≡ b → [] ≡ (if b then drop (length word) text else [])
    go true e = absurd (none (drop (length word) text) (sym (take-append-drop (length word) text) ∙ ap (λ w. w ++ drop (length word) text) ((bytes_eq-Decides (take (length word) text) word).0 e)))
    go false e = refl

-- one with a word that is looked for
pub marked_shown : (p : Piece) (k : ℕ) (rest : List ℕ) → p.found ≡ Some k → rest ≡ behind_word p → shown_marked p.word rest ≡ shown_piece p
marked_shown p k rest is e = ap (shown_marked p.word) e ∙ sym (ap (λ (found : Option ℕ). if is_some found then shown_marked p.word (behind_word p) else shown_text p.text) is)

-- another
pub plain_shown : (p : Piece) → p.found ≡ None → shown_text p.text ≡ shown_piece p
plain_shown p is = sym (ap (λ (found : Option ℕ). if is_some found then shown_marked p.word (behind_word p) else shown_text p.text) is)

-- ---- pieces

-- no piece is taken of none
take_nothing : (n : ℕ) (ps : List code.Piece) → ps ≡ [] → take n ps ≡ []
take_nothing zero ps e = refl
take_nothing (suc n) [] e = refl
take_nothing (suc n) (p ∷ ps) e = absurd (cc)

-- none stands from an index on before one that isn't above it
no_range : (ps : List code.Piece) (start end to : ℕ) → to ≡ min end (length ps) → to ≤ start → take (end - start) (drop start ps) ≡ []
no_range ps start end to is past = elim (cases_lt start end) [
  | inl before ↦ take_nothing (end - start) (drop start ps) (drop_all start ps (let all : length ps ≤ start = omega (arith, is, past, before) in all))
  | inr behind ↦ ap (λ k. take k (drop start ps)) (let none : end - start ≡ 0 = omega (arith, behind) in none)
]

-- the pieces of a range, as far as there are any
in_range : (ps : List code.Piece) (start end to first : ℕ) → to ≡ min end (length ps) → first ≡ min start to → take (to - first) (drop first ps) ≡ take (end - start) (drop start ps)
in_range ps start end to first is begin = elim (cases_lt start to) [
  | inl below ↦
      let left : length (drop start ps) ≡ length ps - start = length-drop start ps in
      let count : to - first ≡ min (end - start) (length (drop start ps)) = omega (arith, is, begin, below, left) in
      let same : first ≡ start = omega (arith, begin, below) in
      ap₂ (λ k i. take k (drop i ps)) count same ∙ take_min (end - start) (drop start ps)
  | inr past ↦ ap (λ k. take k (drop first ps)) (let none : to - first ≡ 0 = omega (arith, begin, past) in none) ∙ sym (no_range ps start end to is past)
]

-- likewise of pieces as the definitions have them
pub range_shown : (ps : List code.Piece) (start end to first : ℕ) → to ≡ min end (length ps) → first ≡ min start to → map piece_of (take (to - first) (drop first ps)) ≡ slice_range (map piece_of ps) start end
range_shown ps start end to first is begin =
    ap (map piece_of) (in_range ps start end to first is begin)
    ∙ sym (ap (take (end - start)) (drop-map piece_of start ps) ∙ take-map piece_of (end - start) (drop start ps))

none : (n : ℕ) → (n == 0) ≡ true → n ≡ 0
none n h = grind (arith, nat_tests, h)

-- a passage without a piece is the beginning of the text
pub beginning_shown : (qs : List code.Piece) (ps : List Piece) (b : Bool) → b ≡ (length qs == 0) → b ≡ true → shown_beginning ps ≡ shown_passage (map piece_of qs) ps
beginning_shown [] ps b is e = refl
beginning_shown (q ∷ qs) ps b is e = absurd (omega (arith, none (length (q ∷ qs)) (sym is ∙ e)))

-- one with pieces is these
pub passage_shown : (qs : List code.Piece) (ps : List Piece) (b : Bool) → b ≡ (length qs == 0) → b ≡ false → flat_map shown_piece (map piece_of qs) ≡ shown_passage (map piece_of qs) ps
passage_shown [] ps b is e = absurd (true≢false (sym is ∙ e))
passage_shown (q ∷ qs) ps b is e = refl
