-- Pairs of a field and any value that can be held.
use Rattle.std.proofs.Common.{◌++◌, ◌+◌, ◌<◌, ◌≤◌, ◌^◌, ◌≡◌, List, ap, arith, length, length-append, true, ℕ}
use Rattle.definitions.specs.NumberCodes.{sized_bytes, u32_bytes, vint_bytes}
use Rattle.definitions.specs.Values.{Members, Value, Values, array, bool, bytes, date, facet, i64, ip_addr, member, members_nesting, nesting, no_members, no_values, null, object, pre_tok_str, str, u64, value, values_nesting}
use Rattle.layouts.specs.DocumentBytes.{members_count, values_count}
use Rattle.document_values.specs.Docs.{IsGoodPair}
use Rattle.document_values.specs.Held.{IsHeldValue, held_bytes, held_members, held_pair, held_values}
use Rattle.layouts.specs.DocumentReading.{deepest}
use Rattle.std.proofs.Math.Nat.{max-le}

-- ---- a value has at least as many bytes as levels

mutual
  bytes_deep : (v : Value) → nesting v ≤ length (held_bytes v)
  bytes_deep null = omega arith
  bytes_deep (str s) = omega arith
  bytes_deep (pre_tok_str s ts) = omega arith
  bytes_deep (u64 n) = omega arith
  bytes_deep (i64 z) = omega arith
  bytes_deep (bool b) = omega arith
  bytes_deep (date z) = omega arith
  bytes_deep (facet steps) = omega arith
  bytes_deep (bytes bs) = omega arith
  bytes_deep (ip_addr n) = omega arith
  bytes_deep (array vs) =
      let all : length (vint_bytes (values_count vs) ++ held_values vs) ≡ length (vint_bytes (values_count vs)) + length (held_values vs) = length-append (vint_bytes (values_count vs)) (held_values vs) in
      omega (arith, all, values_deep vs)
  bytes_deep (object ms) =
      let all : length (vint_bytes (members_count ms) ++ held_members ms) ≡ length (vint_bytes (members_count ms)) + length (held_members ms) = length-append (vint_bytes (members_count ms)) (held_members ms) in
      omega (arith, all, members_deep ms)

  values_deep : (vs : Values) → values_nesting vs ≤ length (held_values vs)
  values_deep no_values = omega arith
  values_deep (value v vs) =
      let all : length (held_bytes v ++ held_values vs) ≡ length (held_bytes v) + length (held_values vs) = length-append (held_bytes v) (held_values vs) in
      max-le (omega (arith, all, bytes_deep v)) (omega (arith, all, values_deep vs))

  members_deep : (ms : Members) → members_nesting ms ≤ length (held_members ms)
  members_deep no_members = omega arith
  members_deep (member k v ms) =
      let all : length (sized_bytes k ++ (held_bytes v ++ held_members ms)) ≡ length (sized_bytes k) + length (held_bytes v ++ held_members ms) = length-append (sized_bytes k) (held_bytes v ++ held_members ms) in
      let behind : length (held_bytes v ++ held_members ms) ≡ length (held_bytes v) + length (held_members ms) = length-append (held_bytes v) (held_members ms) in
      max-le (omega (arith, all, behind, bytes_deep v)) (omega (arith, all, behind, members_deep ms))

pub whole_pair : (f : ℕ) (v : Value) (pair : List ℕ) → f < 2 ^ 32 → IsHeldValue v → pair ≡ held_pair (f, v) → length pair < 2 ^ 64 → IsGoodPair true deepest (f, v)
whole_pair f v pair field held is short =
    let all : length (u32_bytes f ++ held_bytes v) ≡ length (u32_bytes f) + length (held_bytes v) = length-append (u32_bytes f) (held_bytes v) in
    let same : length pair ≡ length (held_pair (f, v)) = ap length is in
    let deep : nesting v ≤ length (held_bytes v) = bytes_deep v in
    record { field = field; value = record { value = held.0; sized = held.1; shallow = omega (arith, all, same, deep, short); kept = λ e. cc } }
