-- How pieces make a query: clauses stand side by side, with `AND` between or without; `NOT` before a clause is its mark `-`;
-- `OR` stands between alternatives, and parentheses make one clause of them. A reading goes from piece to piece, and keeps
-- the groups that are open.
use Rattle.std.specs.Prelude.{[], ◌&&◌, ◌++◌, ◌==◌, ◌||◌, ◌∷◌, Bool, Err, List, None, Ok, Option, Result, Some, bytes_eq, false, if◌then◌else◌, is_some, length, map, nat_eq, nat_le, not, pos, true, ℕ}
use Rattle.std.specs.List.{list_any}
use Rattle.std.specs.Option.{option_map_or}
use Rattle.definitions.specs.Analyzers.{is_word_byte}
use Rattle.definitions.specs.Query.{Clauses, Occur, Query, all, boolean, boost, clause, default_minimum, must, must_not, no_clauses, should}
use Rattle.query_text.specs.Heads.{Head, cut_boost, head_of, slop_in, starred}
use Rattle.query_text.specs.Operators.{cant_follow, is_foreign, is_not, operator_in}
use Rattle.query_text.specs.Pieces.{Piece, pieces_of}
use Rattle.query_text.specs.Refusals.{at_offset, refused_if, ◌>>=◌}
use Rattle.query_text.specs.TypedMarks.{in_text, plain_of}
use Rattle.query_text.specs.declared.operators.Operator.{Operator}
use Rattle.query_text.specs.declared.operators.Operator.TheVariants as operators
use Rattle.query_text.specs.declared.pieces.Form.TheVariants as forms
use Rattle.query_text.specs.declared.refusal.Reason.{Reason}
use Rattle.query_text.specs.declared.refusal.Reason.TheVariants as reasons
use Rattle.query_text.specs.declared.refusal.Refusal.{Refusal}

-- a word or a phrase: the field that it names, its text, its slop, whether it ends in a prefix, and whether what has it is
-- left out
pub record Phrase : Type 0 where
  pub field : Option (List ℕ)
  pub text : List ℕ
  pub slop : ℕ
  pub is_prefix : Bool
  pub is_excluded : Bool

-- the query of each word or phrase
abbrev pub Vocabulary : Type 0
Vocabulary = Phrase → Result Query Reason

-- ---- clauses

-- a query with a boost, if there is one
abbrev pub boosted : Option ℕ → Query → Query
boosted None q = q
boosted (Some n) q = boost (pos n) q

-- the clause of a word or phrase
abbrev pub phrase_clause : Vocabulary → Occur → Option ℕ → Phrase → Result (Occur × Query) Reason
phrase_clause words mark factor phrase = words phrase >>= (λ q. Ok (mark, boosted factor q))

-- whether a mark leaves out what matches
abbrev pub leaves_out : Occur → Bool
leaves_out must_not = true
leaves_out _ = false

-- a word, in a group that is left out or not
abbrev pub word_of : Bool → Head → Phrase
word_of excluded head = record { field = head.field; text = head.rest; slop = 0; is_prefix = false; is_excluded = excluded || leaves_out head.mark }

-- whether ranges of values begin so: by `[`, `{`, `<` or `>`
abbrev pub begins_range : List ℕ → Bool
begins_range [] = false
begins_range (b ∷ bs) = b == 91 || (b == 123 || (b == 60 || b == 62))

-- whether a range stands behind a field's name; there is no query for one
abbrev pub is_range : Head → Bool
is_range head = is_some head.field && begins_range head.rest

-- whether `?` stands right before a letter, a digit or a character past ASCII, where it stands before the text or not
abbrev pub has_open_letter : Bool → List ℕ → Bool
has_open_letter before [] = false
has_open_letter before (b ∷ bs) = (before && is_word_byte b) || has_open_letter (b == 63) bs

-- why a word isn't looked for that leaves letters open: by `*`, by `?` before another letter, or by `~`
abbrev pub open_letters : List ℕ → Option Reason
open_letters text = if list_any (λ b. b == 42) text then Some reasons.LonePrefix else (if has_open_letter false text then Some reasons.Wildcard else (if list_any (λ b. b == 126) text then Some reasons.Fuzzy else None))

-- the clause of a word, in a group that is left out or not
abbrev pub word_clause : Vocabulary → Bool → List ℕ → Result (Occur × Query) Reason
word_clause words excluded run = cut_boost run >>= (λ cut. let head = head_of cut.0 in refused_if (bytes_eq head.rest []) reasons.NothingMarked (refused_if (is_foreign head.rest) reasons.ForeignOperator (refused_if (is_range head) reasons.Range (elim (open_letters head.rest) [ None ↦ phrase_clause words head.mark cut.1 (word_of excluded head) | Some reason ↦ Err reason ]))))

-- the phrase between quotation marks
abbrev pub quoted_phrase : Bool → Option (List ℕ) → List ℕ → ℕ → Phrase
quoted_phrase excluded field text slop = record { field = field; text = (starred text).0; slop = slop; is_prefix = (starred text).1; is_excluded = excluded }

-- the clause of a phrase, in a group that is left out or not
abbrev pub quoted_clause : Vocabulary → Bool → Piece → Result (Occur × Query) Reason
quoted_clause words excluded piece = let head = head_of piece.head in refused_if (is_foreign head.rest) reasons.ForeignOperator (refused_if (not (bytes_eq head.rest [])) reasons.NoSpace (cut_boost piece.tail >>= (λ cut. slop_in cut.0 >>= (λ slop. phrase_clause words head.mark cut.1 (quoted_phrase (excluded || leaves_out head.mark) head.field piece.text slop)))))

-- ---- alternatives

-- clauses side by side: those that `+` marks, those without a mark, and those that `-` marks
pub record Alternative : Type 0 where
  pub required : List Query
  pub unmarked : List Query
  pub excluded : List Query

-- no clause
abbrev pub nothing_asked : Alternative
nothing_asked = record { required = []; unmarked = []; excluded = [] }

-- with one more clause
abbrev pub with_clause : Occur → Query → Alternative → Alternative
with_clause must q a = record a { required = a.required ++ q ∷ [] }
with_clause should q a = record a { unmarked = a.unmarked ++ q ∷ [] }
with_clause must_not q a = record a { excluded = a.excluded ++ q ∷ [] }

-- whether there is no clause
abbrev pub is_empty : Alternative → Bool
is_empty a = nat_eq (length a.required) 0 && (nat_eq (length a.unmarked) 0 && nat_eq (length a.excluded) 0)

-- a clause for each query
abbrev pub asking : Occur → List Query → List (Occur × Query)
asking occur qs = map (λ q. (occur, q)) qs

-- clauses in order
abbrev pub clauses_in : List (Occur × Query) → Clauses
clauses_in [] = no_clauses
clauses_in (c ∷ cs) = clause c.0 c.1 (clauses_in cs)

-- what clauses without a mark ask: where none is marked by `+`, that each matches
abbrev pub unmarked_occur : Alternative → Occur
unmarked_occur a = if nat_eq (length a.required) 0 then must else should

-- every document, where it is only said which ones not
abbrev pub all_others : Alternative → List (Occur × Query)
all_others a = if nat_eq (length a.required) 0 && nat_eq (length a.unmarked) 0 then (must, all) ∷ [] else []

-- the clauses of an alternative
abbrev pub clauses_of : Alternative → List (Occur × Query)
clauses_of a = all_others a ++ asking must a.required ++ asking (unmarked_occur a) a.unmarked ++ asking must_not a.excluded

-- one clause is its query
abbrev pub query_of : List (Occur × Query) → Query
query_of (c ∷ []) = c.1
query_of cs = boolean (clauses_in cs) (default_minimum (clauses_in cs))

-- any of some queries
abbrev pub any_of : List Query → Query
any_of qs = query_of (asking should qs)

-- ---- groups

-- A group that is open: where it begins, what it is marked by, whether what matches it is left out, the alternatives before
-- the last `OR`, and the clauses behind it.
pub record Group : Type 0 where
  pub offset : ℕ
  pub mark : Occur
  pub is_excluded : Bool
  pub before : List Query
  pub last : Alternative

-- a group in which nothing stands yet, in one that is left out or not
abbrev pub new_group : ℕ → Occur → Bool → Group
new_group offset mark excluded = record { offset = offset; mark = mark; is_excluded = excluded || leaves_out mark; before = []; last = nothing_asked }

-- the group in which the reading stands, those round it, the nearest first, and the operator for which something has to
-- follow, with its offset
pub record Reading : Type 0 where
  pub group : Group
  pub outer : List Group
  pub waiting : Option (Operator × ℕ)

-- parentheses are nested no deeper
abbrev pub max_groups : ℕ
max_groups = 16

-- the alternatives of a group
abbrev pub alternatives : Group → Result (List Query) Reason
alternatives group = refused_if (is_empty group.last) reasons.Nothing (Ok (group.before ++ query_of (clauses_of group.last) ∷ []))

-- with one more clause
abbrev pub asks : Occur × Query → Group → Group
asks c group = record group { last = with_clause c.0 c.1 group.last }

-- whether `NOT` stands before
abbrev pub behind_not : Option (Operator × ℕ) → Bool
behind_not None = false
behind_not (Some w) = is_not w.0

-- the mark behind an operator
abbrev pub mark_behind : Option (Operator × ℕ) → Occur → Occur
mark_behind waiting mark = if behind_not waiting then must_not else mark

-- whether what matches the next clause is left out, whatever its mark
abbrev pub excludes : Reading → Bool
excludes r = behind_not r.waiting || r.group.is_excluded

-- behind a clause
abbrev pub past_clause : Reading → Occur × Query → Reading
past_clause r c = record r { group = asks (mark_behind r.waiting c.0, c.1) r.group; waiting = None }

-- behind `OR`
abbrev pub past_or : Reading → Result Reading Reason
past_or r = alternatives r.group >>= (λ qs. Ok (record r { group = record (r.group) { before = qs; last = nothing_asked } }))

-- with an operator for which something has to follow
abbrev pub waiting_for : Reading → Operator → ℕ → Reading
waiting_for r operator offset = record r { waiting = Some (operator, offset) }

-- behind `AND`, which stands behind a clause
abbrev pub past_and : Reading → ℕ → Result Reading Reason
past_and r offset = refused_if (is_empty r.group.last) reasons.StrayOperator (Ok (waiting_for r operators.And offset))

-- behind an operator
abbrev pub past_operator : Reading → ℕ → Operator → Result Reading Reason
past_operator r offset operators.And = past_and r offset
past_operator r offset operators.Or = past_or r
past_operator r offset operators.Not = Ok (waiting_for r operators.Not offset)

-- behind an opening parenthesis
abbrev pub past_open : Reading → Piece → Result Reading Reason
past_open r piece = let head = head_of piece.head in refused_if (is_foreign head.rest) reasons.ForeignOperator (refused_if (not (bytes_eq head.rest [])) reasons.NoSpace (refused_if (is_some head.field) reasons.FieldOfGroup (refused_if (nat_le max_groups (length r.outer)) reasons.TooDeep (Ok (record { group = new_group piece.offset (mark_behind r.waiting head.mark) (excludes r); outer = r.group ∷ r.outer; waiting = None })))))

-- the clause that parentheses make
abbrev pub group_clause : Group → List ℕ → Result (Occur × Query) Reason
group_clause group tail = alternatives group >>= (λ qs. cut_boost tail >>= (λ cut. refused_if (not (bytes_eq cut.0 [])) reasons.NoSpace (Ok (group.mark, boosted cut.1 (any_of qs)))))

-- behind a closing parenthesis
abbrev pub past_close : Reading → Piece → Result Reading Reason
past_close r piece = elim r.outer [ [] ↦ Err reasons.StrayClose | group ∷ outer ↦ group_clause r.group piece.tail >>= (λ c. Ok (record { group = asks c group; outer = outer; waiting = None })) ]

-- behind a word
abbrev pub past_word : Vocabulary → Reading → Piece → Result Reading Reason
past_word words r piece = elim (operator_in piece.head) [ None ↦ word_clause words (excludes r) piece.head >>= (λ c. Ok (past_clause r c)) | Some operator ↦ past_operator r piece.offset operator ]

-- whether a piece can't follow the operator before it
abbrev pub is_stray : Option (Operator × ℕ) → Piece → Bool
is_stray None piece = false
is_stray (Some w) piece = elim piece.form [ forms.Close ↦ true | _ ↦ cant_follow w.0 piece.head ]

-- behind a piece that can follow
abbrev pub past_next : Vocabulary → Reading → Piece → Result Reading Reason
past_next words r piece = elim piece.form [ forms.Word ↦ past_word words r piece | forms.Quoted ↦ quoted_clause words (excludes r) piece >>= (λ c. Ok (past_clause r c)) | forms.Unclosed ↦ Err reasons.UnclosedQuote | forms.Open ↦ past_open r piece | forms.Close ↦ past_close r piece ]

-- behind a piece
abbrev pub past_piece : Vocabulary → Reading → Piece → Result Reading Reason
past_piece words r piece = refused_if (is_stray r.waiting piece) reasons.StrayOperator (past_next words r piece)

-- behind some pieces
abbrev pub past_pieces : Vocabulary → Reading → List Piece → Result Reading Refusal
past_pieces words r [] = Ok r
past_pieces words r (piece ∷ ps) = at_offset piece.offset (past_piece words r piece) >>= (λ next. past_pieces words next ps)

-- what a reading ends with
abbrev pub ended : Reading → Result Query Reason
ended r = refused_if (is_some r.waiting) reasons.StrayOperator (refused_if (nat_le 1 (length r.outer)) reasons.UnclosedGroup (alternatives r.group >>= (λ qs. Ok (any_of qs))))

-- where it is seen that something is wanting at the end
abbrev pub end_offset : Reading → ℕ
end_offset r = option_map_or (λ w. w.1) r.waiting r.group.offset

-- the reading before the first piece
abbrev pub nothing_read : Reading
nothing_read = record { group = new_group 0 should false; outer = []; waiting = None }

-- the query that a text without typed marks is
abbrev pub read_plain : Vocabulary → List ℕ → Result Query Refusal
read_plain words text = past_pieces words nothing_read (pieces_of text) >>= (λ r. at_offset (end_offset r) (ended r))

-- the query that a text is
abbrev pub read : Vocabulary → List ℕ → Result Query Refusal
read words text = in_text text (read_plain words (plain_of text))
