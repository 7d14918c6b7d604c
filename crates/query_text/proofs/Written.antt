-- What is written is read: the pieces of a phrase, its head and its tail, and then phrases and groups of them.
use Rattle.std.proofs.Common.{[], ◌&&◌, ◌++◌, ◌+◌, ◌<◌, ◌==◌, ◌||◌, ◌∙◌, ◌∷◌, ◌≡◌, ◌≤◌, Bool, Err, List, None, Ok, Option, Result, Some, ap, ap₂, append-nil, append_assoc, arith, bytes_eq, cond, drop, false, length, nat_eq, nat_le, nat_lt, not, ok_or, option_map, refl, suc, sym, take, true, unwrap_or, ℕ}
use Rattle.std.specs.List.{AllByRecursion, position_or_len}
use Rattle.std.specs.Result.{result_ok}
use Rattle.std.proofs.Math.Seq.{drop-append-add, take-append_seam}
use Rattle.std.proofs.lemmas.Bool.Decides.{nat_tests}
use Rattle.std.proofs.lemmas.List.{length-append}
use Rattle.definitions.specs.Query.{Occur, Query, must, must_not, should}
use Rattle.definitions.proofs.Lists.{all_append}
use Rattle.query_text.specs.Heads.{Head, cut_boost, fielded, head_of, marked, number_in, slop_in, split_at}
use Rattle.query_text.specs.Pieces.{Piece, alone, bare, begun, between, class_of, pieces_from, quoting, running, trailing}
use Rattle.query_text.specs.Operators.{is_foreign}
use Rattle.query_text.specs.Reading.{Alternative, Group, Reading, Vocabulary, alternatives, any_of, asks, boosted, end_offset, ended, group_clause, is_empty, leaves_out, max_groups, new_group, nothing_asked, past_clause, past_open, past_pieces, phrase_clause, quoted_clause, quoted_phrase, read, read_plain, with_clause}
use Rattle.query_text.specs.Refusals.{at_offset, refused_if, ◌>>=◌}
use Rattle.query_text.specs.TypedMarks.{in_text}
use Rattle.query_text.specs.Writing.{AreWrittenSides, IsDigit, IsNameByte, IsNamed, IsNumber, IsPlain, IsUnmarked, IsWritten, IsWrittenPart, IsWrittenSide, Part, Side, Sides, Written, before, clause_in, field_text, gathered, group_part, head_text, last_part, last_side, mark_text, next_part, next_side, part_before, part_clause, part_depth, phrase_part, query_beside, query_written, side_before, side_clauses, side_depth, sides_before, sides_depth, sides_queries, signed, tail_text, text_of}
use Rattle.query_text.specs.declared.pieces.Class.{Class}
use Rattle.query_text.specs.declared.pieces.Class.TheVariants as classes
use Rattle.query_text.specs.declared.pieces.Form.TheVariants as forms
use Rattle.query_text.specs.declared.refusal.Reason.{Reason}
use Rattle.query_text.specs.declared.refusal.Reason.TheVariants as reasons
use Rattle.query_text.specs.declared.refusal.Refusal.{Refusal}

-- bytes that are parts of words
abbrev IsPart : ℕ → Type 0
IsPart b = class_of b ≡ classes.Part

abbrev AreParts : List ℕ → Type 0
AreParts bs = AllByRecursion IsPart bs

all_map : {P Q : ℕ → Type 0} → ((b : ℕ) → P b → Q b) → (xs : List ℕ) → AllByRecursion P xs → AllByRecursion Q xs
all_map f [] all = all
all_map f (x ∷ xs) all = (f x all.0, all_map f xs all.1)

-- ---- pieces

-- a run that a quotation mark ends
run_past : (bs : List ℕ) → AreParts bs → (start : ℕ) (run : List ℕ) (offset : ℕ) (rest : List ℕ) → (p : ℕ) × (pieces_from (running start run) offset (bs ++ 34 ∷ rest) ≡ pieces_from (quoting start (run ++ bs) []) p rest)
run_past [] parts start run offset rest = (offset + 1, ap (λ r. pieces_from (quoting start r []) (offset + 1) rest) (sym (append-nil run)))
run_past (b ∷ bs) parts start run offset rest =
    let next = run_past bs parts.1 start (run ++ b ∷ []) (offset + 1) rest in
    let step = ap (λ (c : Class). elim c [ classes.Part ↦ [] | classes.Quote ↦ [] | classes.Opening ↦ bare forms.Open start run ∷ [] | _ ↦ bare forms.Word start run ∷ [] ] ++ pieces_from (elim c [ classes.Part ↦ running start (run ++ b ∷ []) | classes.Quote ↦ quoting start run [] | classes.Opening ↦ between | _ ↦ begun offset b ]) (offset + 1) (bs ++ 34 ∷ rest)) parts.0 in
    (next.0, step ∙ next.1 ∙ ap (λ r. pieces_from (quoting start r []) next.0 rest) (append_assoc run (b ∷ []) bs))

-- what stands before a quotation mark
head_past : (bs : List ℕ) → AreParts bs → (offset : ℕ) (rest : List ℕ) → (p : ℕ) × (pieces_from between offset (bs ++ 34 ∷ rest) ≡ pieces_from (quoting offset bs []) p rest)
head_past [] parts offset rest = (offset + 1, refl)
head_past (b ∷ bs) parts offset rest =
    let next = run_past bs parts.1 offset (b ∷ []) (offset + 1) rest in
    let step = ap (λ (c : Class). elim c [ classes.Opening ↦ bare forms.Open offset [] ∷ [] | _ ↦ [] ] ++ pieces_from (elim c [ classes.Gap ↦ between | classes.Opening ↦ between | classes.Quote ↦ quoting offset [] [] | classes.Closing ↦ trailing (bare forms.Close offset []) [] | classes.Part ↦ running offset (b ∷ []) ]) (offset + 1) (bs ++ 34 ∷ rest)) parts.0 in
    (next.0, step ∙ next.1)

-- the piece of a phrase
abbrev quoted : ℕ → List ℕ → List ℕ → Piece
quoted start head text = record { form = forms.Quoted; offset = start; head = head; text = text; tail = [] }

-- the text of a phrase
text_past : (bs : List ℕ) → AllByRecursion (λ b. (b == 34) ≡ false) bs → (start : ℕ) (head text : List ℕ) (offset : ℕ) (rest : List ℕ) → (p : ℕ) × (pieces_from (quoting start head text) offset (bs ++ 34 ∷ rest) ≡ pieces_from (trailing (quoted start head (text ++ bs)) []) p rest)
text_past [] plain start head text offset rest = (offset + 1, ap (λ t. pieces_from (trailing (quoted start head t) []) (offset + 1) rest) (sym (append-nil text)))
text_past (b ∷ bs) plain start head text offset rest =
    let next = text_past bs plain.1 start head (text ++ b ∷ []) (offset + 1) rest in
    let step = ap (λ (c : Bool). pieces_from (cond c (trailing (quoted start head text) []) (quoting start head (text ++ b ∷ []))) (offset + 1) (bs ++ 34 ∷ rest)) plain.0 in
    (next.0, step ∙ next.1 ∙ ap (λ t. pieces_from (trailing (quoted start head t) []) next.0 rest) (append_assoc text (b ∷ []) bs))

-- what follows ends a tail
abbrev Ends : List ℕ → Type 0
Ends rest = (piece : Piece) (tail : List ℕ) (offset : ℕ) → pieces_from (trailing piece tail) offset rest ≡ record piece { tail = tail } ∷ pieces_from between offset rest

at_end : Ends []
at_end piece tail offset = refl

at_space : (rest : List ℕ) → Ends (32 ∷ rest)
at_space rest piece tail offset = refl

at_close : (rest : List ℕ) → Ends (41 ∷ rest)
at_close rest piece tail offset = refl

-- what stands behind a phrase or a parenthesis
tail_past : (bs : List ℕ) → AreParts bs → (piece : Piece) (tail : List ℕ) (offset : ℕ) (rest : List ℕ) → Ends rest → (p : ℕ) × (pieces_from (trailing piece tail) offset (bs ++ rest) ≡ record piece { tail = tail ++ bs } ∷ pieces_from between p rest)
tail_past [] parts piece tail offset rest ends = (offset, ends piece tail offset ∙ ap (λ t. record piece { tail = t } ∷ pieces_from between offset rest) (sym (append-nil tail)))
tail_past (b ∷ bs) parts piece tail offset rest ends =
    let next = tail_past bs parts.1 piece (tail ++ b ∷ []) (offset + 1) rest ends in
    let step = ap (λ (c : Class). elim c [ classes.Part ↦ [] | _ ↦ record piece { tail = tail } ∷ alone offset b ] ++ pieces_from (elim c [ classes.Part ↦ trailing piece (tail ++ b ∷ []) | _ ↦ begun offset b ]) (offset + 1) (bs ++ rest)) parts.0 in
    (next.0, step ∙ next.1 ∙ ap (λ t. record piece { tail = t } ∷ pieces_from between next.0 rest) (append_assoc tail (b ∷ []) bs))

-- ---- the bytes beside a phrase

name_parts : (b : ℕ) → IsNameByte b → class_of b ≡ classes.Part
name_parts b is = is.part

mark_parts : (mark : Occur) → AreParts (mark_text mark)
mark_parts must = (refl, tt)
mark_parts should = tt
mark_parts must_not = (refl, tt)

field_parts : (field : Option (List ℕ)) → IsNamed field → AreParts (field_text field)
field_parts None is = tt
field_parts (Some name) is = all_append IsPart name (58 ∷ []) (all_map name_parts name is.0) (refl, tt)

head_parts : (w : Written) → IsWritten w → AreParts (head_text w)
head_parts w is = all_append IsPart (mark_text w.mark) (field_text w.field) (mark_parts w.mark) (field_parts w.field is.field)

part_if : (b : ℕ) → nat_le b 32 ≡ false → (b == 34) ≡ false → (b == 40) ≡ false → (b == 41) ≡ false → class_of b ≡ classes.Part
part_if b gap quote opening closing =
    ap (λ t. cond t classes.Gap (cond (b == 34) classes.Quote (cond (b == 40) classes.Opening (cond (b == 41) classes.Closing classes.Part)))) gap
    ∙ ap (λ t. cond t classes.Quote (cond (b == 40) classes.Opening (cond (b == 41) classes.Closing classes.Part))) quote
    ∙ ap (λ t. cond t classes.Opening (cond (b == 41) classes.Closing classes.Part)) opening
    ∙ ap (λ t. cond t classes.Closing classes.Part) closing

digit_part : (b : ℕ) → IsDigit b → class_of b ≡ classes.Part
digit_part b is =
    let low : 48 ≤ b = is.0 in
    part_if b (grind (arith, nat_tests, low)) (grind (arith, nat_tests, low)) (grind (arith, nat_tests, low)) (grind (arith, nat_tests, low))

digit_other : (b : ℕ) → IsDigit b → (b == 94) ≡ false
digit_other b is = let high : b ≤ 57 = is.1 in grind (arith, nat_tests, high)

signed_parts : (sign : ℕ) (ds : List ℕ) → class_of sign ≡ classes.Part → IsNumber ds → AreParts (signed sign ds)
signed_parts sign [] part is = tt
signed_parts sign (d ∷ ds) part is = (part, all_map digit_part (d ∷ ds) is.0)

tail_parts : (w : Written) → IsWritten w → AreParts (tail_text w)
tail_parts w is = all_append IsPart (signed 126 w.slop) (signed 94 w.boost) (signed_parts 126 w.slop refl is.slop) (signed_parts 94 w.boost refl is.boost)

-- ---- the piece of a phrase

-- the piece that begins at an offset
abbrev piece_at : ℕ → Written → Piece
piece_at offset w = record { form = forms.Quoted; offset = offset; head = head_text w; text = w.text; tail = tail_text w }

-- one phrase is one piece
one_piece : (w : Written) → IsWritten w → (rest : List ℕ) → Ends rest → (offset : ℕ) → (p : ℕ) × (pieces_from between offset (before w rest) ≡ piece_at offset w ∷ pieces_from between p rest)
one_piece w is rest ends offset =
    let head = head_past (head_text w) (head_parts w is) offset (w.text ++ 34 ∷ (tail_text w ++ rest)) in
    let text = text_past w.text is.text offset (head_text w) [] head.0 (tail_text w ++ rest) in
    let tail = tail_past (tail_text w) (tail_parts w is) (quoted offset (head_text w) w.text) [] text.0 rest ends in
    (tail.0, head.1 ∙ text.1 ∙ tail.1)

-- ---- what the head and the tail say

one_more : (n : ℕ) → 1 + n ≡ suc n
one_more n = omega arith

module _ (byte : ℕ) (same : (byte == byte) ≡ true) where
  -- where the first such byte stands
  first_at : (xs ys : List ℕ) → AllByRecursion (λ b. (b == byte) ≡ false) xs → position_or_len (λ b. b == byte) (xs ++ byte ∷ ys) ≡ length xs
  first_at [] ys none = ap (λ t. cond (not t) (1 + position_or_len (λ b. b == byte) ys) 0) same
  first_at (x ∷ xs) ys none = ap (λ t. cond (not t) (1 + position_or_len (λ b. b == byte) (xs ++ byte ∷ ys)) 0) none.0 ∙ ap (λ n. 1 + n) (first_at xs ys none.1) ∙ one_more (length xs)

  within : (xs ys : List ℕ) → nat_lt (length xs) (length (xs ++ byte ∷ ys)) ≡ true
  within xs ys = let below : length xs < length (xs ++ byte ∷ ys) = omega (arith, length-append xs (byte ∷ ys)) in grind (arith, nat_tests, below)

  split_here : (xs ys : List ℕ) → AllByRecursion (λ b. (b == byte) ≡ false) xs → split_at byte (xs ++ byte ∷ ys) ≡ Some (xs, ys)
  split_here xs ys none =
      let text = xs ++ byte ∷ ys in
      ap (λ n. option_map (λ i. (take i text, drop (i + 1) text)) (cond (nat_lt n (length text)) (Some n) None)) (first_at xs ys none)
      ∙ ap (λ t. option_map (λ i. (take i text, drop (i + 1) text)) (cond t (Some (length xs)) None)) (within xs ys)
      ∙ ap₂ (λ a b. Some (a, b)) (take-append_seam xs (byte ∷ ys)) (drop-append-add xs (byte ∷ ys) 1)

  nowhere : (xs : List ℕ) → AllByRecursion (λ b. (b == byte) ≡ false) xs → position_or_len (λ b. b == byte) xs ≡ length xs
  nowhere [] none = refl
  nowhere (x ∷ xs) none = ap (λ t. cond (not t) (1 + position_or_len (λ b. b == byte) xs) 0) none.0 ∙ ap (λ n. 1 + n) (nowhere xs none.1) ∙ one_more (length xs)

  not_below : (n : ℕ) → nat_lt n n ≡ false
  not_below n = grind (arith, nat_tests)

  split_nowhere : (xs : List ℕ) → AllByRecursion (λ b. (b == byte) ≡ false) xs → split_at byte xs ≡ None
  split_nowhere xs none =
      ap (λ n. option_map (λ i. (take i xs, drop (i + 1) xs)) (cond (nat_lt n (length xs)) (Some n) None)) (nowhere xs none)
      ∙ ap (λ t. option_map (λ i. (take i xs, drop (i + 1) xs)) (cond t (Some (length xs)) None)) (not_below (length xs))

-- the mark and the field of a head
names_no_colon : (b : ℕ) → IsNameByte b → (b == 58) ≡ false
names_no_colon b is = is.name

field_read : (mark : Occur) (field : List ℕ) → AllByRecursion IsNameByte field → fielded mark (field ++ 58 ∷ []) ≡ record { mark = mark; field = Some field; rest = [] }
field_read mark field is = ap (λ (o : Option (List ℕ × List ℕ)). elim o [ None ↦ record { mark = mark; field = None; rest = field ++ 58 ∷ [] } | Some p ↦ record { mark = mark; field = Some p.0; rest = p.1 } ]) (split_here 58 refl field [] (all_map names_no_colon field is))

unmarked : (field rest : List ℕ) → IsUnmarked field → marked (field ++ 58 ∷ rest) ≡ (should, field ++ 58 ∷ rest)
unmarked [] rest is = refl
unmarked (b ∷ bs) rest is =
    let text = bs ++ 58 ∷ rest in
    ap (λ t. cond t (must, text) (cond (b == 45) (must_not, text) (should, b ∷ text))) is.0
    ∙ ap (λ t. cond t (must_not, text) (should, b ∷ text)) is.1

head_read : (mark : Occur) (field : Option (List ℕ)) → IsNamed field → head_of (mark_text mark ++ field_text field) ≡ record { mark = mark; field = field; rest = [] }
head_read must None is = refl
head_read should None is = refl
head_read must_not None is = refl
head_read must (Some name) is = field_read must name is.0
head_read should (Some name) is = ap (λ (m : Occur × List ℕ). fielded m.0 m.1) (unmarked name [] is.1) ∙ field_read should name is.0
head_read must_not (Some name) is = field_read must_not name is.0

-- the boost of a tail
signed_other : (ds : List ℕ) → IsNumber ds → AllByRecursion (λ b. (b == 94) ≡ false) (signed 126 ds)
signed_other [] is = tt
signed_other (d ∷ ds) is = (refl, all_map digit_other (d ∷ ds) is.0)

boost_read : (front boost : List ℕ) → AllByRecursion (λ b. (b == 94) ≡ false) front → IsNumber boost → cut_boost (front ++ signed 94 boost) ≡ Ok (front, number_in boost)
boost_read front [] none is =
    ap cut_boost (append-nil front)
    ∙ ap (λ (o : Option (List ℕ × List ℕ)). elim o [ None ↦ Ok (front, None) | Some p ↦ ok_or (option_map (λ n. (p.0, Some n)) (number_in p.1)) reasons.BadNumber ]) (split_nowhere 94 refl front none)
boost_read front (d ∷ ds) none is =
    let text = front ++ 94 ∷ d ∷ ds in
    ap (λ (o : Option (List ℕ × List ℕ)). elim o [ None ↦ Ok (text, None) | Some p ↦ ok_or (option_map (λ n. (p.0, Some n)) (number_in p.1)) reasons.BadNumber ]) (split_here 94 refl front (d ∷ ds) none)
    ∙ ap (λ (o : Option ℕ). ok_or (option_map (λ n. (front, Some n)) o) reasons.BadNumber) is.2
    ∙ ap (λ (o : Option ℕ). Ok (front, o)) (sym is.2)

-- the slop
slop_read : (slop : List ℕ) → IsNumber slop → slop_in (signed 126 slop) ≡ Ok (unwrap_or (number_in slop) 0)
slop_read [] is = refl
slop_read (d ∷ ds) is =
    ap (λ (o : Option ℕ). ok_or o reasons.BadNumber) is.2
    ∙ ap (λ (o : Option ℕ). Ok (unwrap_or o 0)) (sym is.2)

-- the clause of a phrase is the one that is meant
clause_read : (words : Vocabulary) (excluded : Bool) (w : Written) → IsWritten w → (offset : ℕ) → quoted_clause words excluded (piece_at offset w) ≡ clause_in words excluded w
clause_read words excluded w is offset =
    let phrase_in = quoted_phrase (excluded || leaves_out w.mark) w.field w.text in
    ap (λ (head : Head). refused_if (is_foreign head.rest) reasons.ForeignOperator (refused_if (not (bytes_eq head.rest [])) reasons.NoSpace (cut_boost (tail_text w) >>= (λ cut. slop_in cut.0 >>= (λ slop. phrase_clause words head.mark cut.1 (quoted_phrase (excluded || leaves_out head.mark) head.field w.text slop)))))) (head_read w.mark w.field is.field)
    ∙ ap (λ (cut : Result (List ℕ × Option ℕ) Reason). cut >>= (λ c. slop_in c.0 >>= (λ slop. phrase_clause words w.mark c.1 (phrase_in slop)))) (boost_read (signed 126 w.slop) w.boost (signed_other w.slop is.slop) is.boost)
    ∙ ap (λ (slop : Result ℕ Reason). slop >>= (λ n. phrase_clause words w.mark (number_in w.boost) (phrase_in n))) (slop_read w.slop is.slop)

-- ---- readings

-- behind the clauses of a list
abbrev past_all : Reading → List (Occur × Query) → Reading
past_all r [] = r
past_all r (c ∷ cs) = past_all (past_clause r c) cs

-- a group that is open, and a reading in it
abbrev group_at : ℕ → Occur → Bool → List Query → Alternative → Group
group_at offset mark excluded qs a = record { offset = offset; mark = mark; is_excluded = excluded; before = qs; last = a }

abbrev reading_in : Group → List Group → Reading
reading_in group outer = record { group = group; outer = outer; waiting = None }

past_with : (offset : ℕ) (mark : Occur) (excluded : Bool) (qs : List Query) (outer : List Group) (a : Alternative) (cs : List (Occur × Query)) → past_all (reading_in (group_at offset mark excluded qs a) outer) cs ≡ reading_in (group_at offset mark excluded qs (gathered a cs)) outer
past_with offset mark excluded qs outer a [] = refl
past_with offset mark excluded qs outer a (c ∷ cs) = past_with offset mark excluded qs outer (with_clause c.0 c.1 a) cs

-- there is a clause then
longer : (qs : List Query) (q : Query) → nat_eq (length (qs ++ q ∷ [])) 0 ≡ false
longer qs q = let some : 0 < length (qs ++ q ∷ []) = omega (arith, length-append qs (q ∷ [])) in grind (arith, nat_tests, some)

-- the tests of emptiness
abbrev all_empty : Bool → Bool → Bool → Bool
all_empty x y z = x && (y && z)

second : (x z : Bool) → all_empty x false z ≡ false
second true z = refl
second false z = refl

third : (x y : Bool) → all_empty x y false ≡ false
third true true = refl
third true false = refl
third false y = refl

with_one : (a : Alternative) (occur : Occur) (q : Query) → is_empty (with_clause occur q a) ≡ false
with_one a must q = ap (λ t. all_empty t (nat_eq (length a.unmarked) 0) (nat_eq (length a.excluded) 0)) (longer a.required q)
with_one a should q = ap (λ t. all_empty (nat_eq (length a.required) 0) t (nat_eq (length a.excluded) 0)) (longer a.unmarked q) ∙ second (nat_eq (length a.required) 0) (nat_eq (length a.excluded) 0)
with_one a must_not q = ap (λ t. all_empty (nat_eq (length a.required) 0) (nat_eq (length a.unmarked) 0) t) (longer a.excluded q) ∙ third (nat_eq (length a.required) 0) (nat_eq (length a.unmarked) 0)

stays : (a : Alternative) (cs : List (Occur × Query)) → is_empty a ≡ false → is_empty (gathered a cs) ≡ false
stays a [] some = some
stays a (c ∷ cs) some = stays (with_clause c.0 c.1 a) cs (with_one a c.0 c.1)

-- what a value follows from
bound : {A B : Type 0} (x : Result A Reason) (f : A → Result B Reason) (b : B) → x >>= f ≡ Ok b → (a : A) × (x ≡ Ok a) × (f a ≡ Ok b)
bound (Ok a) f b is = (a, refl, is)
bound (Err e) f b is = absurd (cc)

-- a side has a clause
side_some : (words : Vocabulary) (excluded : Bool) (side : Side) (cs : List (Occur × Query)) → side_clauses words excluded side ≡ Ok cs → is_empty (gathered nothing_asked cs) ≡ false
side_some words excluded (last_part p) cs is =
    let one = bound (part_clause words excluded p) (λ c. Ok (c ∷ [])) cs is in
    ap (λ (r : Result (List (Occur × Query)) Reason). is_empty (gathered nothing_asked (unwrap_or (result_ok r) []))) (sym one.2) ∙ with_one nothing_asked one.0.0 one.0.1
side_some words excluded (next_part p side) cs is =
    let one = bound (part_clause words excluded p) (λ c. side_clauses words excluded side >>= (λ ds. Ok (c ∷ ds))) cs is in
    let more = bound (side_clauses words excluded side) (λ ds. Ok (one.0 ∷ ds)) cs one.2 in
    ap (λ (r : Result (List (Occur × Query)) Reason). is_empty (gathered nothing_asked (unwrap_or (result_ok r) []))) (sym more.2) ∙ stays (with_clause one.0.0 one.0.1 nothing_asked) more.0 (with_one nothing_asked one.0.0 one.0.1)

-- ---- parentheses and `OR`

-- an opening parenthesis with its mark
open_past : (mark : Occur) (offset : ℕ) (rest : List ℕ) → (p : ℕ) × (pieces_from between offset (mark_text mark ++ 40 ∷ rest) ≡ bare forms.Open offset (mark_text mark) ∷ pieces_from between p rest)
open_past must offset rest = (offset + 1 + 1, refl)
open_past should offset rest = (offset + 1, refl)
open_past must_not offset rest = (offset + 1 + 1, refl)

-- there is room for one more group
room : (n k : ℕ) → n + suc k ≤ max_groups → nat_le max_groups n ≡ false
room n k few = let below : n < max_groups = omega (arith, few) in grind (arith, nat_tests, below)

opened : (mark : Occur) (group : Group) (outer : List Group) (offset : ℕ) → nat_le max_groups (length outer) ≡ false → past_open (reading_in group outer) (bare forms.Open offset (mark_text mark)) ≡ Ok (reading_in (new_group offset mark group.is_excluded) (group ∷ outer))
opened must group outer offset few = ap (λ t. refused_if t reasons.TooDeep (Ok (reading_in (new_group offset must group.is_excluded) (group ∷ outer)))) few
opened should group outer offset few = ap (λ t. refused_if t reasons.TooDeep (Ok (reading_in (new_group offset should group.is_excluded) (group ∷ outer)))) few
opened must_not group outer offset few = ap (λ t. refused_if t reasons.TooDeep (Ok (reading_in (new_group offset must_not group.is_excluded) (group ∷ outer)))) few

-- the clause of a group that closes
closed : (group : Group) (boost : List ℕ) → IsNumber boost → (qs : List Query) → alternatives group ≡ Ok qs → group_clause group (signed 94 boost) ≡ Ok (group.mark, boosted (number_in boost) (any_of qs))
closed group boost is qs asked =
    ap (λ (a : Result (List Query) Reason). a >>= (λ qs. cut_boost (signed 94 boost) >>= (λ cut. refused_if (not (bytes_eq cut.0 [])) reasons.NoSpace (Ok (group.mark, boosted cut.1 (any_of qs)))))) asked
    ∙ ap (λ (cut : Result (List ℕ × Option ℕ) Reason). cut >>= (λ cut. refused_if (not (bytes_eq cut.0 [])) reasons.NoSpace (Ok (group.mark, boosted cut.1 (any_of qs))))) (boost_read [] boost tt is)

-- ---- all that is written

-- a reading leads to another one, with what is left of the text
abbrev LeadsTo : Vocabulary → Reading → ℕ → List ℕ → Reading → List ℕ → Type 0
LeadsTo words r offset text next rest = (p : ℕ) × (past_pieces words r (pieces_from between offset text) ≡ past_pieces words next (pieces_from between p rest))

-- the sides of a group are read: it has their queries behind those before
record AreRead (words : Vocabulary) (sides : Sides) (qs : List Query) (start : ℕ) (mark : Occur) (excluded : Bool) (queries : List Query) (outer : List Group) (rest : List ℕ) (offset : ℕ) : Type 0 where
  before : List Query
  last : Alternative
  read : LeadsTo words (reading_in (group_at start mark excluded queries nothing_asked) outer) offset (sides_before sides rest) (reading_in (group_at start mark excluded before last) outer) rest
  asked : alternatives (group_at start mark excluded before last) ≡ Ok (queries ++ qs)

-- the queries of a group behind one more side
asked_more : (words : Vocabulary) (side : Side) (cs : List (Occur × Query)) (excluded : Bool) → side_clauses words excluded side ≡ Ok cs → (start : ℕ) (mark : Occur) (queries : List Query) → alternatives (group_at start mark excluded queries (gathered nothing_asked cs)) ≡ Ok (queries ++ query_beside cs ∷ [])
asked_more words side cs excluded means start mark queries = ap (λ t. refused_if t reasons.Nothing (Ok (queries ++ query_beside cs ∷ []))) (side_some words excluded side cs means)

-- an `OR` behind a side
or_read : (words : Vocabulary) (start : ℕ) (mark : Occur) (excluded : Bool) (queries : List Query) (outer : List Group) (a : Alternative) (qs : List Query) → alternatives (group_at start mark excluded queries a) ≡ Ok qs → (rest : List ℕ) (offset : ℕ) → LeadsTo words (reading_in (group_at start mark excluded queries a) outer) offset (32 ∷ 79 ∷ 82 ∷ 32 ∷ rest) (reading_in (group_at start mark excluded qs nothing_asked) outer) rest
or_read words start mark excluded queries outer a qs asked rest offset = (offset + 1 + 1 + 1 + 1, ap (λ (r : Result (List Query) Reason). at_offset (offset + 1) (r >>= (λ qs. Ok (reading_in (group_at start mark excluded qs nothing_asked) outer))) >>= (λ next. past_pieces words next (pieces_from between (offset + 1 + 1 + 1 + 1) rest))) asked)

mutual
  part_read : (words : Vocabulary) (x : Part) → IsWrittenPart x → (c : Occur × Query) (group : Group) → part_clause words group.is_excluded x ≡ Ok c → (outer : List Group) → length outer + part_depth x ≤ max_groups → (rest : List ℕ) → Ends rest → (offset : ℕ) → LeadsTo words (reading_in group outer) offset (part_before x rest) (reading_in (asks c group) outer) rest
  part_read words (phrase_part w) is c group means outer few rest ends offset =
      let one = one_piece w is rest ends offset in (
        one.0,
        ap (past_pieces words (reading_in group outer)) one.1
            ∙ ap (λ (clause : Result (Occur × Query) Reason). at_offset offset (clause >>= (λ d. Ok (reading_in (asks d group) outer))) >>= (λ next. past_pieces words next (pieces_from between one.0 rest))) (clause_read words group.is_excluded w is offset ∙ means),
      )
  part_read words (group_part mark sides boost) is c group means outer few rest ends offset =
      let excluded = group.is_excluded || leaves_out mark in
      let qs = bound (sides_queries words excluded sides) (λ qs. Ok (mark, boosted (number_in boost) (any_of qs))) c means in
      let behind = 41 ∷ (signed 94 boost ++ rest) in
      let opening = open_past mark offset (sides_before sides behind) in
      let inner = sides_read words sides is.0 qs.0 excluded qs.1 offset mark [] (group ∷ outer) (omega (arith, few)) behind (at_close (signed 94 boost ++ rest)) opening.0 in
      let closing = tail_past (signed 94 boost) (signed_parts 94 boost refl is.1) (bare forms.Close inner.read.0 []) [] (inner.read.0 + 1) rest ends in (
        closing.0,
        ap (past_pieces words (reading_in group outer)) opening.1
            ∙ ap (λ (next : Result Reading Reason). at_offset offset next >>= (λ next. past_pieces words next (pieces_from between opening.0 (sides_before sides behind)))) (opened mark group outer offset (room (length outer) (sides_depth sides) few))
            ∙ inner.read.1
            ∙ ap (past_pieces words (reading_in (group_at offset mark excluded inner.before inner.last) (group ∷ outer))) closing.1
            ∙ ap (λ (d : Result (Occur × Query) Reason). at_offset inner.read.0 (d >>= (λ d. Ok (reading_in (asks d group) outer))) >>= (λ next. past_pieces words next (pieces_from between closing.0 rest))) (closed (group_at offset mark excluded inner.before inner.last) boost is.1 qs.0 inner.asked ∙ qs.2),
      )

  side_read : (words : Vocabulary) (side : Side) → IsWrittenSide side → (cs : List (Occur × Query)) (group : Group) → side_clauses words group.is_excluded side ≡ Ok cs → (outer : List Group) → length outer + side_depth side ≤ max_groups → (rest : List ℕ) → Ends rest → (offset : ℕ) → LeadsTo words (reading_in group outer) offset (side_before side rest) (past_all (reading_in group outer) cs) rest
  side_read words (last_part p) is cs group means outer few rest ends offset =
      let c = bound (part_clause words group.is_excluded p) (λ c. Ok (c ∷ [])) cs means in
      let one = part_read words p is c.0 group c.1 outer few rest ends offset in
      (one.0, one.1 ∙ ap (λ (a : Result (List (Occur × Query)) Reason). past_pieces words (past_all (reading_in group outer) (unwrap_or (result_ok a) [])) (pieces_from between one.0 rest)) c.2)
  side_read words (next_part p side) is cs group means outer few rest ends offset =
      let c = bound (part_clause words group.is_excluded p) (λ c. side_clauses words group.is_excluded side >>= (λ ds. Ok (c ∷ ds))) cs means in
      let ds = bound (side_clauses words group.is_excluded side) (λ ds. Ok (c.0 ∷ ds)) cs c.2 in
      let one = part_read words p is.0 c.0 group c.1 outer (omega (arith, few)) (32 ∷ side_before side rest) (at_space (side_before side rest)) offset in
      let more = side_read words side is.1 ds.0 (asks c.0 group) ds.1 outer (omega (arith, few)) rest ends (one.0 + 1) in
      (more.0, one.1 ∙ more.1 ∙ ap (λ (a : Result (List (Occur × Query)) Reason). past_pieces words (past_all (reading_in group outer) (unwrap_or (result_ok a) [])) (pieces_from between more.0 rest)) ds.2)

  sides_read : (words : Vocabulary) (sides : Sides) → AreWrittenSides sides → (qs : List Query) (excluded : Bool) → sides_queries words excluded sides ≡ Ok qs → (start : ℕ) (mark : Occur) (queries : List Query) (outer : List Group) → length outer + sides_depth sides ≤ max_groups → (rest : List ℕ) → Ends rest → (offset : ℕ) → AreRead words sides qs start mark excluded queries outer rest offset
  sides_read words (last_side side) is qs excluded means start mark queries outer few rest ends offset =
      let cs = bound (side_clauses words excluded side) (λ cs. Ok (query_beside cs ∷ [])) qs means in
      let one = side_read words side is cs.0 (group_at start mark excluded queries nothing_asked) cs.1 outer few rest ends offset in
      record {
        before = queries;
        last = gathered nothing_asked cs.0;
        read = (one.0, one.1 ∙ ap (λ (r : Reading). past_pieces words r (pieces_from between one.0 rest)) (past_with start mark excluded queries outer nothing_asked cs.0));
        asked = asked_more words side cs.0 excluded cs.1 start mark queries ∙ ap (λ (a : Result (List Query) Reason). Ok (queries ++ unwrap_or (result_ok a) [])) cs.2;
      }
  sides_read words (next_side side sides) is qs excluded means start mark queries outer few rest ends offset =
      let cs = bound (side_clauses words excluded side) (λ cs. sides_queries words excluded sides >>= (λ qs. Ok (query_beside cs ∷ qs))) qs means in
      let more = bound (sides_queries words excluded sides) (λ qs. Ok (query_beside cs.0 ∷ qs)) qs cs.2 in
      let behind = 32 ∷ 79 ∷ 82 ∷ 32 ∷ sides_before sides rest in
      let one = side_read words side is.0 cs.0 (group_at start mark excluded queries nothing_asked) cs.1 outer (omega (arith, few)) behind (at_space (79 ∷ 82 ∷ 32 ∷ sides_before sides rest)) offset in
      let longer = queries ++ query_beside cs.0 ∷ [] in
      let parted = or_read words start mark excluded queries outer (gathered nothing_asked cs.0) longer (asked_more words side cs.0 excluded cs.1 start mark queries) (sides_before sides rest) one.0 in
      let others = sides_read words sides is.1 more.0 excluded more.1 start mark longer outer (omega (arith, few)) rest ends parted.0 in
      record {
        before = others.before;
        last = others.last;
        read = (others.read.0, one.1 ∙ ap (λ (r : Reading). past_pieces words r (pieces_from between one.0 behind)) (past_with start mark excluded queries outer nothing_asked cs.0) ∙ parted.1 ∙ others.read.1);
        asked = others.asked ∙ ap Ok (append_assoc queries (query_beside cs.0 ∷ []) more.0) ∙ ap (λ (a : Result (List Query) Reason). Ok (queries ++ unwrap_or (result_ok a) [])) more.2;
      }

-- what is written is read as the query of its sides
pub written_read : (words : Vocabulary) (sides : Sides) → AreWrittenSides sides → sides_depth sides ≤ max_groups → IsPlain (text_of sides) → (q : Query) → query_written words sides ≡ Ok q → read words (text_of sides) ≡ Ok q
written_read words sides is few plain q means =
    let text = text_of sides in
    let qs = bound (sides_queries words false sides) (λ qs. Ok (any_of qs)) q means in
    let all = sides_read words sides is qs.0 false qs.1 0 should [] [] (omega (arith, few)) [] at_end 0 in
    ap (λ t. in_text text (read_plain words t)) plain
    ∙ ap (λ (past : Result Reading Refusal). in_text text (past >>= (λ r. at_offset (end_offset r) (ended r)))) all.read.1
    ∙ ap (λ (a : Result (List Query) Reason). in_text text (at_offset 0 (a >>= (λ qs. Ok (any_of qs))))) all.asked
    ∙ ap (λ (a : Result Query Reason). in_text text (at_offset 0 a)) qs.2
