-- Values are read back from their marks, by which they are stored.
use Rattle.std.specs.Prelude.{[], ◌++◌, ◌∷◌, ◌≡◌, List, refl}
use mathlib.Core.Path.{◌∙◌, ap}
use Rattle.std.specs.Coded.{Coded, code_by, coded_list, coded_ℕ, coded×}
use Rattle.definitions.specs.Stored.{Named}
use Rattle.definitions.specs.Values.{Members, Value, Values, array, bool, bytes, date, facet, i64, ip_addr, member, no_members, no_values, null, object, pre_tok_str, str, u64, value}
use Rattle.document_values.specs.ValueCodes.{Mark, Part, array_mark, last_value, marks, member_mark, members_marks, object_mark, of_members, of_value, of_values, past_mark, past_marks, value_at, value_mark, values_marks}

-- marks after others are passed after them
past-append : (ms ns : List Mark) (ps : List Part) → past_marks (ms ++ ns) ps ≡ past_marks ns (past_marks ms ps)
past-append [] ns ps = refl
past-append (m ∷ ms) ns ps = past-append ms ns (past_mark m ps)

-- past its marks, a value is read
mutual
  past-value : (v : Value) (ps : List Part) → past_marks (marks v) ps ≡ of_value v ∷ ps
  past-value null ps = refl
  past-value (str s) ps = refl
  past-value (pre_tok_str s ts) ps = refl
  past-value (u64 n) ps = refl
  past-value (i64 z) ps = refl
  past-value (bool b) ps = refl
  past-value (date z) ps = refl
  past-value (facet steps) ps = refl
  past-value (bytes bs) ps = refl
  past-value (ip_addr n) ps = refl
  past-value (array vs) ps = past-append (values_marks vs) (array_mark ∷ []) ps ∙ ap (past_mark array_mark) (past-values vs ps)
  past-value (object ms) ps = past-append (members_marks ms) (object_mark ∷ []) ps ∙ ap (past_mark object_mark) (past-members ms ps)

  past-values : (vs : Values) (ps : List Part) → past_marks (values_marks vs) ps ≡ of_values vs ∷ ps
  past-values no_values ps = refl
  past-values (value v vs) ps =
      past-append (marks v) (values_marks vs ++ (value_mark ∷ [])) ps
      ∙ ap (past_marks (values_marks vs ++ (value_mark ∷ []))) (past-value v ps)
      ∙ past-append (values_marks vs) (value_mark ∷ []) (of_value v ∷ ps)
      ∙ ap (past_mark value_mark) (past-values vs (of_value v ∷ ps))

  past-members : (ms : Members) (ps : List Part) → past_marks (members_marks ms) ps ≡ of_members ms ∷ ps
  past-members no_members ps = refl
  past-members (member k v ms) ps =
      past-append (marks v) (members_marks ms ++ (member_mark k ∷ [])) ps
      ∙ ap (past_marks (members_marks ms ++ (member_mark k ∷ []))) (past-value v ps)
      ∙ past-append (members_marks ms) (member_mark k ∷ []) (of_value v ∷ ps)
      ∙ ap (past_mark (member_mark k)) (past-members ms (of_value v ∷ ps))

-- a value is read back from its marks
pub value_at-marks : (v : Value) → value_at (marks v) ≡ v
value_at-marks v = ap last_value (past-value v [])

-- a value is stored as its marks
abbrev pub value_code : Coded Mark → Coded Value
value_code mark = code_by (List Mark) (coded_list mark) marks value_at value_at-marks

-- names and values are stored in order
abbrev pub named_code : Coded Mark → Coded Named
named_code mark = coded_list (coded× (coded_list coded_ℕ) (coded_list (value_code mark)))
