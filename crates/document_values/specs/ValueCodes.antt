-- Values as lists of marks, from which they are read back: so a proof tells values apart.
use Rattle.std.specs.Prelude.{[], ◌++◌, ◌∷◌, Bool, List, ℕ, ℤ}
use Rattle.definitions.specs.Values.{Members, Token, Value, Values, array, bool, bytes, date, facet, i64, ip_addr, member, no_members, no_values, null, object, pre_tok_str, str, u64, value}

-- what a value is made of, without the values in it
pub data Mark : Type 0 where
  null_mark : Mark
  str_mark : List ℕ → Mark
  pre_tok_str_mark : List ℕ → List Token → Mark
  u64_mark : ℕ → Mark
  i64_mark : ℤ → Mark
  bool_mark : Bool → Mark
  date_mark : ℤ → Mark
  facet_mark : List (List ℕ) → Mark
  bytes_mark : List ℕ → Mark
  ip_addr_mark : ℕ → Mark
  array_mark : Mark
  object_mark : Mark
  no_values_mark : Mark
  value_mark : Mark
  no_members_mark : Mark
  member_mark : List ℕ → Mark

-- the marks of a value, those of the values in it first
abbrev mutual
  pub marks : Value → List Mark
  marks null = null_mark ∷ []
  marks (str s) = str_mark s ∷ []
  marks (pre_tok_str s ts) = pre_tok_str_mark s ts ∷ []
  marks (u64 n) = u64_mark n ∷ []
  marks (i64 z) = i64_mark z ∷ []
  marks (bool b) = bool_mark b ∷ []
  marks (date z) = date_mark z ∷ []
  marks (facet steps) = facet_mark steps ∷ []
  marks (bytes bs) = bytes_mark bs ∷ []
  marks (ip_addr n) = ip_addr_mark n ∷ []
  marks (array vs) = values_marks vs ++ (array_mark ∷ [])
  marks (object ms) = members_marks ms ++ (object_mark ∷ [])

  pub values_marks : Values → List Mark
  values_marks no_values = no_values_mark ∷ []
  values_marks (value v vs) = marks v ++ (values_marks vs ++ (value_mark ∷ []))

  pub members_marks : Members → List Mark
  members_marks no_members = no_members_mark ∷ []
  members_marks (member k v ms) = marks v ++ (members_marks ms ++ (member_mark k ∷ []))

-- what was read so far
pub data Part : Type 0 where
  of_value : Value → Part
  of_values : Values → Part
  of_members : Members → Part

-- the parts after one more mark, the last first
abbrev pub past_mark : Mark → List Part → List Part
past_mark null_mark ps = of_value null ∷ ps
past_mark (str_mark s) ps = of_value (str s) ∷ ps
past_mark (pre_tok_str_mark s ts) ps = of_value (pre_tok_str s ts) ∷ ps
past_mark (u64_mark n) ps = of_value (u64 n) ∷ ps
past_mark (i64_mark z) ps = of_value (i64 z) ∷ ps
past_mark (bool_mark b) ps = of_value (bool b) ∷ ps
past_mark (date_mark z) ps = of_value (date z) ∷ ps
past_mark (facet_mark steps) ps = of_value (facet steps) ∷ ps
past_mark (bytes_mark bs) ps = of_value (bytes bs) ∷ ps
past_mark (ip_addr_mark n) ps = of_value (ip_addr n) ∷ ps
past_mark array_mark (of_values vs ∷ ps) = of_value (array vs) ∷ ps
past_mark object_mark (of_members ms ∷ ps) = of_value (object ms) ∷ ps
past_mark no_values_mark ps = of_values no_values ∷ ps
past_mark value_mark (of_values vs ∷ of_value v ∷ ps) = of_values (value v vs) ∷ ps
past_mark no_members_mark ps = of_members no_members ∷ ps
past_mark (member_mark k) (of_members ms ∷ of_value v ∷ ps) = of_members (member k v ms) ∷ ps
past_mark _ ps = ps

-- the parts after all marks
abbrev pub past_marks : List Mark → List Part → List Part
past_marks [] ps = ps
past_marks (m ∷ ms) ps = past_marks ms (past_mark m ps)

-- the value that was read last
abbrev pub last_value : List Part → Value
last_value (of_value v ∷ ps) = v
last_value _ = null

-- the value of these marks
abbrev pub value_at : List Mark → Value
value_at ms = last_value (past_marks ms [])
