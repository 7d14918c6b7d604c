-- Texts that queries are written as: phrases, side by side, in parentheses, and with `OR` between.
use Rattle.std.specs.Prelude.{[], ◌++◌, ◌==◌, ◌||◌, ◌∷◌, ◌≡◌, ◌≤◌, Bool, List, None, Ok, Option, Result, Some, false, max, suc, unwrap_or, ℕ}
use Rattle.std.specs.List.{AllByRecursion}
use Rattle.definitions.specs.Query.{Occur, Query, must, must_not, should}
use Rattle.query_text.specs.Heads.{number_in}
use Rattle.query_text.specs.Pieces.{class_of}
use Rattle.query_text.specs.Reading.{Alternative, Vocabulary, any_of, boosted, clauses_of, leaves_out, nothing_asked, phrase_clause, query_of, quoted_phrase, with_clause}
use Rattle.query_text.specs.Refusals.{◌>>=◌}
use Rattle.query_text.specs.TypedMarks.{plain_of}
use Rattle.query_text.specs.declared.pieces.Class.TheVariants as classes
use Rattle.query_text.specs.declared.refusal.Reason.{Reason}

-- a phrase that is written; a slop and a boost are digits, or nothing
pub record Written : Type 0 where
  pub mark : Occur
  pub field : Option (List ℕ)
  pub text : List ℕ
  pub slop : List ℕ
  pub boost : List ℕ

-- A part is a phrase, or a group with its mark and its boost. On a side parts stand beside each other; `OR` stands
-- between sides.
mutual
  pub data Part : Type 0 where
    phrase_part : Written → Part
    group_part : Occur → Sides → List ℕ → Part

  pub data Side : Type 0 where
    last_part : Part → Side
    next_part : Part → Side → Side

  pub data Sides : Type 0 where
    last_side : Side → Sides
    next_side : Side → Sides → Sides

-- groups in each other
abbrev mutual
  pub part_depth : Part → ℕ
  part_depth (phrase_part w) = 0
  part_depth (group_part mark sides boost) = suc (sides_depth sides)

  pub side_depth : Side → ℕ
  side_depth (last_part p) = part_depth p
  side_depth (next_part p side) = max (part_depth p) (side_depth side)

  pub sides_depth : Sides → ℕ
  sides_depth (last_side side) = side_depth side
  sides_depth (next_side side sides) = max (side_depth side) (sides_depth sides)

-- ---- as a text

-- what marks a clause
abbrev pub mark_text : Occur → List ℕ
mark_text must = 43 ∷ []
mark_text should = []
mark_text must_not = 45 ∷ []

-- the name of a field, if there is one
abbrev pub field_text : Option (List ℕ) → List ℕ
field_text None = []
field_text (Some name) = name ++ 58 ∷ []

-- what stands right before a phrase
abbrev pub head_text : Written → List ℕ
head_text w = mark_text w.mark ++ field_text w.field

-- a number behind its sign, or nothing
abbrev pub signed : ℕ → List ℕ → List ℕ
signed sign [] = []
signed sign (d ∷ ds) = sign ∷ d ∷ ds

-- what stands right behind it
abbrev pub tail_text : Written → List ℕ
tail_text w = signed 126 w.slop ++ signed 94 w.boost

-- a phrase that is written, and what follows it
abbrev pub before : Written → List ℕ → List ℕ
before w rest = head_text w ++ 34 ∷ (w.text ++ 34 ∷ (tail_text w ++ rest))

-- what is written, and what follows it
abbrev mutual
  pub part_before : Part → List ℕ → List ℕ
  part_before (phrase_part w) rest = before w rest
  part_before (group_part mark sides boost) rest = mark_text mark ++ 40 ∷ sides_before sides (41 ∷ (signed 94 boost ++ rest))

  pub side_before : Side → List ℕ → List ℕ
  side_before (last_part p) rest = part_before p rest
  side_before (next_part p side) rest = part_before p (32 ∷ side_before side rest)

  pub sides_before : Sides → List ℕ → List ℕ
  sides_before (last_side side) rest = side_before side rest
  sides_before (next_side side sides) rest = side_before side (32 ∷ 79 ∷ 82 ∷ 32 ∷ sides_before sides rest)

-- the text of all sides
abbrev pub text_of : Sides → List ℕ
text_of sides = sides_before sides []

-- ---- which of them

-- a byte of a field's name
pub record IsNameByte (b : ℕ) : Type 0 where
  pub part : class_of b ≡ classes.Part
  pub name : (b == 58) ≡ false

-- a name doesn't begin as a mark
abbrev pub IsUnmarked : List ℕ → Type 0
IsUnmarked [] = Unit {0}
IsUnmarked (b ∷ bs) = ((b == 43) ≡ false) × ((b == 45) ≡ false)

-- there is no field, or its name can be written
abbrev pub IsNamed : Option (List ℕ) → Type 0
IsNamed None = Unit {0}
IsNamed (Some name) = AllByRecursion IsNameByte name × IsUnmarked name

-- a decimal digit
abbrev pub IsDigit : ℕ → Type 0
IsDigit b = (48 ≤ b) × (b ≤ 57)

-- nothing, or digits that are read as a number
abbrev pub IsNumber : List ℕ → Type 0
IsNumber [] = Unit {0}
IsNumber (d ∷ ds) = AllByRecursion IsDigit (d ∷ ds) × (n : ℕ) × (number_in (d ∷ ds) ≡ Some n)

-- which phrases can be written: the name and the text let the text end where it ends
pub record IsWritten (w : Written) : Type 0 where
  pub field : IsNamed w.field
  pub text : AllByRecursion (λ b. (b == 34) ≡ false) w.text
  pub slop : IsNumber w.slop
  pub boost : IsNumber w.boost

-- A text without typed marks: it is read as itself.
abbrev pub IsPlain : List ℕ → Type 0
IsPlain text = plain_of text ≡ text

-- each phrase can be written, and each boost is one
abbrev mutual
  pub IsWrittenPart : Part → Type 0
  IsWrittenPart (phrase_part w) = IsWritten w
  IsWrittenPart (group_part mark sides boost) = AreWrittenSides sides × IsNumber boost

  pub IsWrittenSide : Side → Type 0
  IsWrittenSide (last_part p) = IsWrittenPart p
  IsWrittenSide (next_part p side) = IsWrittenPart p × IsWrittenSide side

  pub AreWrittenSides : Sides → Type 0
  AreWrittenSides (last_side side) = IsWrittenSide side
  AreWrittenSides (next_side side sides) = IsWrittenSide side × AreWrittenSides sides

-- ---- what they mean

-- the clause of a phrase, in a group that is left out or not
abbrev pub clause_in : Vocabulary → Bool → Written → Result (Occur × Query) Reason
clause_in words excluded w = phrase_clause words w.mark (number_in w.boost) (quoted_phrase (excluded || leaves_out w.mark) w.field w.text (unwrap_or (number_in w.slop) 0))

-- with the clauses of a list
abbrev pub gathered : Alternative → List (Occur × Query) → Alternative
gathered a [] = a
gathered a (c ∷ cs) = gathered (with_clause c.0 c.1 a) cs

-- the query of clauses side by side
abbrev pub query_beside : List (Occur × Query) → Query
query_beside cs = query_of (clauses_of (gathered nothing_asked cs))

-- the clause of a part, the clauses of a side, and the queries of all sides, in a group that is left out or not
abbrev mutual
  pub part_clause : Vocabulary → Bool → Part → Result (Occur × Query) Reason
  part_clause words excluded (phrase_part w) = clause_in words excluded w
  part_clause words excluded (group_part mark sides boost) = sides_queries words (excluded || leaves_out mark) sides >>= (λ qs. Ok (mark, boosted (number_in boost) (any_of qs)))

  pub side_clauses : Vocabulary → Bool → Side → Result (List (Occur × Query)) Reason
  side_clauses words excluded (last_part p) = part_clause words excluded p >>= (λ c. Ok (c ∷ []))
  side_clauses words excluded (next_part p side) = part_clause words excluded p >>= (λ c. side_clauses words excluded side >>= (λ cs. Ok (c ∷ cs)))

  pub sides_queries : Vocabulary → Bool → Sides → Result (List Query) Reason
  sides_queries words excluded (last_side side) = side_clauses words excluded side >>= (λ cs. Ok (query_beside cs ∷ []))
  sides_queries words excluded (next_side side sides) = side_clauses words excluded side >>= (λ cs. sides_queries words excluded sides >>= (λ qs. Ok (query_beside cs ∷ qs)))

-- the query of all sides
abbrev pub query_written : Vocabulary → Sides → Result Query Reason
query_written words sides = sides_queries words false sides >>= (λ qs. Ok (any_of qs))
