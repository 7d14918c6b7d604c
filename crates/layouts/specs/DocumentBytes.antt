-- Documents as bytes: how many pairs there are, then each pair's field and value.
use Rattle.std.specs.Prelude.{[], ◌%◌, ◌++◌, ◌/◌, ◌^◌, ◌∷◌, List, flat_map, length, suc, ℕ}
use Rattle.std.specs.Int.{cast_unsigned, from_bool, w64}
use Rattle.definitions.specs.Facets.{encoded}
use Rattle.definitions.specs.NumberCodes.{sized_bytes, u32_bytes, u64_bytes, vint_bytes}
use Rattle.definitions.specs.Values.{Document, Members, Value, Values, array, bool, bytes, date, facet, i64, ip_addr, member, no_members, no_values, null, object, pre_tok_str, str, u64, value}

-- how many values an array has
abbrev pub values_count : Values → ℕ
values_count no_values = 0
values_count (value v vs) = suc (values_count vs)

-- how many members an object has
abbrev pub members_count : Members → ℕ
members_count no_members = 0
members_count (member k v ms) = suc (members_count ms)

-- A value: a code, and what it holds. Numbers below zero and dates stand in two's complement, an address
-- as its lower and its upper 64 bits, which makes 16 bytes with the lowest first. A pre-tokenised text
-- stands as its text, and the codes 6, 7 and 8 stand for nothing.
abbrev mutual
  pub value_bytes : Value → List ℕ
  value_bytes (str s) = 0 ∷ sized_bytes s
  value_bytes (pre_tok_str s ts) = 0 ∷ sized_bytes s
  value_bytes (u64 n) = 1 ∷ u64_bytes n
  value_bytes (i64 z) = 2 ∷ u64_bytes (cast_unsigned w64 z)
  value_bytes (facet steps) = 3 ∷ sized_bytes (encoded steps)
  value_bytes (bytes bs) = 4 ∷ sized_bytes bs
  value_bytes (date z) = 5 ∷ u64_bytes (cast_unsigned w64 z)
  value_bytes (bool b) = 9 ∷ from_bool b ∷ []
  value_bytes (ip_addr n) = 10 ∷ (u64_bytes (n % 2 ^ 64) ++ u64_bytes (n / 2 ^ 64))
  value_bytes null = 11 ∷ []
  value_bytes (array vs) = 12 ∷ (vint_bytes (values_count vs) ++ values_bytes vs)
  value_bytes (object ms) = 13 ∷ (vint_bytes (members_count ms) ++ members_bytes ms)

  pub values_bytes : Values → List ℕ
  values_bytes no_values = []
  values_bytes (value v vs) = value_bytes v ++ values_bytes vs

  pub members_bytes : Members → List ℕ
  members_bytes no_members = []
  members_bytes (member k v ms) = sized_bytes k ++ (value_bytes v ++ members_bytes ms)

-- a field's number and one of its values
abbrev pub pair_bytes : ℕ × Value → List ℕ
pair_bytes p = u32_bytes p.0 ++ value_bytes p.1

-- how many pairs there are, and these in order
abbrev pub document_bytes : Document → List ℕ
document_bytes doc = vint_bytes (length doc) ++ flat_map pair_bytes doc
