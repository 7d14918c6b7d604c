-- How a document holds its pairs in memory: as in their binary form, but pre-tokenised texts keep their tokens.
use Rattle.std.specs.Prelude.{[], ⊤, ◌++◌, ◌<◌, ◌^◌, ◌∷◌, List, flat_map, length, ℕ}
use Rattle.definitions.specs.Facets.{encoded}
use Rattle.definitions.specs.NumberCodes.{sized_bytes, u32_bytes, vint_bytes}
use Rattle.definitions.specs.Values.{Document, IsValue, Members, Token, Value, Values, array, bytes, facet, member, no_members, no_values, object, pre_tok_str, str, value}
use Rattle.layouts.specs.DocumentBytes.{members_count, value_bytes, values_count}

-- a token: its position, how many positions it takes, and its text
abbrev pub token_bytes : Token → List ℕ
token_bytes t = vint_bytes t.position ++ (vint_bytes t.position_length ++ sized_bytes t.text)

-- how many tokens there are, and these
abbrev pub tokens_bytes : List Token → List ℕ
tokens_bytes ts = vint_bytes (length ts) ++ flat_map token_bytes ts

-- a value; a pre-tokenised text has the code 8 here, then its text and its tokens
abbrev mutual
  pub held_bytes : Value → List ℕ
  held_bytes (pre_tok_str s ts) = 8 ∷ (sized_bytes s ++ tokens_bytes ts)
  held_bytes (array vs) = 12 ∷ (vint_bytes (values_count vs) ++ held_values vs)
  held_bytes (object ms) = 13 ∷ (vint_bytes (members_count ms) ++ held_members ms)
  held_bytes v = value_bytes v

  pub held_values : Values → List ℕ
  held_values no_values = []
  held_values (value v vs) = held_bytes v ++ held_values vs

  pub held_members : Members → List ℕ
  held_members no_members = []
  held_members (member k v ms) = sized_bytes k ++ (held_bytes v ++ held_members ms)

-- a field's number and one of its values
abbrev pub held_pair : ℕ × Value → List ℕ
held_pair p = u32_bytes p.0 ++ held_bytes p.1

abbrev pub held_pairs : Document → List ℕ
held_pairs doc = flat_map held_pair doc

-- ---- what can be held: lengths and positions below 2^64

abbrev pub IsSizedToken : Token → Type 0
IsSizedToken t = (t.position < 2 ^ 64) × (t.position_length < 2 ^ 64) × (length t.text < 2 ^ 64)

abbrev pub AreSizedTokens : List Token → Type 0
AreSizedTokens [] = ⊤
AreSizedTokens (t ∷ ts) = IsSizedToken t × AreSizedTokens ts

abbrev mutual
  pub IsSized : Value → Type 0
  IsSized (str s) = length s < 2 ^ 64
  IsSized (pre_tok_str s ts) = (length s < 2 ^ 64) × (length ts < 2 ^ 64) × AreSizedTokens ts
  IsSized (facet steps) = length (encoded steps) < 2 ^ 64
  IsSized (bytes bs) = length bs < 2 ^ 64
  IsSized (array vs) = (values_count vs < 2 ^ 64) × AreSized vs
  IsSized (object ms) = (members_count ms < 2 ^ 64) × AreSizedMembers ms
  IsSized _ = ⊤

  pub AreSized : Values → Type 0
  AreSized no_values = ⊤
  AreSized (value v vs) = IsSized v × AreSized vs

  pub AreSizedMembers : Members → Type 0
  AreSizedMembers no_members = ⊤
  AreSizedMembers (member k v ms) = (length k < 2 ^ 64) × IsSized v × AreSizedMembers ms

-- a value that can be held, however deep
abbrev pub IsHeldValue : Value → Type 0
IsHeldValue v = IsValue v × IsSized v
