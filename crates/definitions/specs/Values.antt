-- Documents: lists of fields with values, as they are added.
use Rattle.std.specs.Prelude.{[], ⊤, ◌<◌, ◌==◌, ◌^◌, ◌∷◌, ◌≢◌, ◌≤◌, Bool, FitsSigned, IsUtf8, List, filter, map, max, suc, ℕ, ℤ}
use Rattle.std.specs.List.{AllByRecursion}
use Rattle.std.specs.Int.{w64}

-- A piece of a text that is found by itself: the place where it stands, and how many places it takes.
pub record Token : Type 0 where
  pub position : ℕ
  pub position_length : ℕ
  pub text : List ℕ

-- A value. Texts are their UTF-8, dates are nanoseconds since 1970, facets are their steps, and an
-- address is its 128 bits, where an IPv4 address is mapped into IPv6.
mutual
  pub data Value : Type 0 where
    null : Value
    str : List ℕ → Value
    pre_tok_str : List ℕ → List Token → Value
    u64 : ℕ → Value
    i64 : ℤ → Value
    bool : Bool → Value
    date : ℤ → Value
    facet : List (List ℕ) → Value
    bytes : List ℕ → Value
    ip_addr : ℕ → Value
    array : Values → Value
    object : Members → Value

  pub data Values : Type 0 where
    no_values : Values
    value : Value → Values → Values

  pub data Members : Type 0 where
    no_members : Members
    member : List ℕ → Value → Members → Members

-- the values with the numbers of their fields, in order of addition
abbrev pub Document : Type 0
Document = List (ℕ × Value)

-- a field's values, in order
abbrev pub values_of : ℕ → Document → List Value
values_of field doc = map (λ p. p.1) (filter (λ p. p.0 == field) doc)

-- how deep arrays and objects nest
abbrev mutual
  pub nesting : Value → ℕ
  nesting (array vs) = suc (values_nesting vs)
  nesting (object ms) = suc (members_nesting ms)
  nesting _ = 0

  pub values_nesting : Values → ℕ
  values_nesting no_values = 0
  values_nesting (value v vs) = max (nesting v) (values_nesting vs)

  pub members_nesting : Members → ℕ
  members_nesting no_members = 0
  members_nesting (member k v ms) = max (nesting v) (members_nesting ms)

-- ---- which of these are values

-- the positions don't fall
abbrev pub AreTokensFrom : ℕ → List Token → Type 0
AreTokensFrom least [] = ⊤
AreTokensFrom least (t ∷ ts) = (least ≤ t.position) × IsUtf8 t.text × AreTokensFrom t.position ts

-- tokens whose positions never fall
abbrev pub AreTokens : List Token → Type 0
AreTokens ts = AreTokensFrom 0 ts

-- a text without U+0000
abbrev pub IsStep : List ℕ → Type 0
IsStep s = IsUtf8 s × AllByRecursion (λ b. b ≢ 0) s

-- one step or more
abbrev pub IsFacet : List (List ℕ) → Type 0
IsFacet steps = (steps ≢ []) × AllByRecursion IsStep steps

-- texts are texts, and numbers fit their types
abbrev mutual
  pub IsValue : Value → Type 0
  IsValue null = ⊤
  IsValue (str s) = IsUtf8 s
  IsValue (pre_tok_str s ts) = IsUtf8 s × AreTokens ts
  IsValue (u64 n) = n < 2 ^ 64
  IsValue (i64 z) = FitsSigned w64 z
  IsValue (bool b) = ⊤
  IsValue (date z) = FitsSigned w64 z
  IsValue (facet steps) = IsFacet steps
  IsValue (bytes bs) = AllByRecursion (λ b. b < 2 ^ 8) bs
  IsValue (ip_addr n) = n < 2 ^ 128
  IsValue (array vs) = AreValues vs
  IsValue (object ms) = AreMembers ms

  pub AreValues : Values → Type 0
  AreValues no_values = ⊤
  AreValues (value v vs) = IsValue v × AreValues vs

  pub AreMembers : Members → Type 0
  AreMembers no_members = ⊤
  AreMembers (member k v ms) = IsUtf8 k × IsValue v × AreMembers ms

-- field numbers of 32 bits, and values that are values
abbrev pub IsDocument : Document → Type 0
IsDocument doc = AllByRecursion (λ p. (p.0 < 2 ^ 32) × IsValue p.1) doc
