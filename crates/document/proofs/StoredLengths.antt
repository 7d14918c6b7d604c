-- The binary form of stored pairs is hardly longer than the bytes by which a document holds its pairs.
use Rattle.std.proofs.Common.{[], ◌*◌, ◌++◌, ◌+◌, ◌/◌, ◌<◌, ◌≤◌, ◌^◌, ◌∷◌, ◌≡◌, ◌∙◌, Bool, List, ap, arith, false, flat_map, length, length-append, nat_lt, refl, suc, sym, true, zero, ℕ}
use Rattle.std.proofs.lemmas.Bool.Decides.{nat_tests}
use Rattle.common.proofs.VintDigits.{vint_high, vint_low}
use Rattle.definitions.specs.NumberCodes.{sized_bytes, u32_bytes, vint_bytes}
use Rattle.definitions.specs.Schema.{Schema, field_has}
use Rattle.definitions.specs.Stored.{stored_pairs}
use Rattle.definitions.specs.Values.{Document, Members, Value, Values, array, bool, bytes, date, facet, i64, ip_addr, member, no_members, no_values, null, object, pre_tok_str, str, u64, value}
use Rattle.document_values.specs.Docs.{IsHeap, pairs_at}
use Rattle.document_values.specs.Held.{held_bytes, held_members, held_pair, held_pairs, held_values, tokens_bytes}
use Rattle.layouts.specs.DocumentBytes.{document_bytes, members_bytes, members_count, pair_bytes, value_bytes, values_bytes, values_count}
use Rattle.document.proofs.HeldPairs.{pairs_held}
use Rattle.document.proofs.StoredPairs.{few_stored, pair_not_stored, pair_stored, plain_bytes}

-- ---- counts

-- numbers below this take at most one byte of seven bits more than `k`
abbrev reach : ℕ → ℕ
reach zero = 128
reach (suc k) = 128 * reach k

few_places : (k n : ℕ) → n < reach k → length (vint_bytes n) ≤ suc k
few_places zero n small = (let one : length (vint_bytes n) ≡ 1 = ap length (vint_low n small) in omega (arith, one))
few_places (suc k) n small = go (nat_lt n 128) refl (few_places k (n / 128))
  where
    go : (b : Bool) → nat_lt n 128 ≡ b → (n / 128 < reach k → length (vint_bytes (n / 128)) ≤ suc k) → length (vint_bytes n) ≤ suc (suc k)
    go true is more =
        let low : n < 128 = grind (arith, nat_tests) in
        let one : length (vint_bytes n) ≡ 1 = ap length (vint_low n low) in
        omega (arith, one)
    go false is more =
        let high : 128 ≤ n = grind (arith, nat_tests) in
        let all : length (vint_bytes n) ≡ suc (length (vint_bytes (n / 128))) = ap length (vint_high n high) in
        let left : n / 128 < reach k = omega (arith, small) in
        let rest = more left in
        omega (arith, all, rest)

short_count : (n : ℕ) → n < 2 ^ 64 → length (vint_bytes n) ≤ 10
short_count n small =
    let within : n < reach 9 = omega (arith, small) in
    few_places 9 n within

-- ---- values

mutual
  no_longer : (v : Value) → length (value_bytes v) ≤ length (held_bytes v)
  no_longer null = omega arith
  no_longer (str s) = omega arith
  no_longer (pre_tok_str s ts) =
      let all : length (sized_bytes s ++ tokens_bytes ts) ≡ length (sized_bytes s) + length (tokens_bytes ts) = length-append (sized_bytes s) (tokens_bytes ts) in
      omega (arith, all)
  no_longer (u64 n) = omega arith
  no_longer (i64 z) = omega arith
  no_longer (bool b) = omega arith
  no_longer (date z) = omega arith
  no_longer (facet steps) = omega arith
  no_longer (bytes bs) = omega arith
  no_longer (ip_addr n) = omega arith
  no_longer (array vs) =
      let count = vint_bytes (values_count vs) in
      let written : length (count ++ values_bytes vs) ≡ length count + length (values_bytes vs) = length-append count (values_bytes vs) in
      let held : length (count ++ held_values vs) ≡ length count + length (held_values vs) = length-append count (held_values vs) in
      let inside = values_no_longer vs in
      omega (arith, written, held, inside)
  no_longer (object ms) =
      let count = vint_bytes (members_count ms) in
      let written : length (count ++ members_bytes ms) ≡ length count + length (members_bytes ms) = length-append count (members_bytes ms) in
      let held : length (count ++ held_members ms) ≡ length count + length (held_members ms) = length-append count (held_members ms) in
      let inside = members_no_longer ms in
      omega (arith, written, held, inside)

  values_no_longer : (vs : Values) → length (values_bytes vs) ≤ length (held_values vs)
  values_no_longer no_values = omega arith
  values_no_longer (value v vs) =
      let written : length (value_bytes v ++ values_bytes vs) ≡ length (value_bytes v) + length (values_bytes vs) = length-append (value_bytes v) (values_bytes vs) in
      let held : length (held_bytes v ++ held_values vs) ≡ length (held_bytes v) + length (held_values vs) = length-append (held_bytes v) (held_values vs) in
      let first = no_longer v in
      let others = values_no_longer vs in
      omega (arith, written, held, first, others)

  members_no_longer : (ms : Members) → length (members_bytes ms) ≤ length (held_members ms)
  members_no_longer no_members = omega arith
  members_no_longer (member k v ms) =
      let written : length (sized_bytes k ++ (value_bytes v ++ members_bytes ms)) ≡ length (sized_bytes k) + length (value_bytes v ++ members_bytes ms) = length-append (sized_bytes k) (value_bytes v ++ members_bytes ms) in
      let written_behind : length (value_bytes v ++ members_bytes ms) ≡ length (value_bytes v) + length (members_bytes ms) = length-append (value_bytes v) (members_bytes ms) in
      let held : length (sized_bytes k ++ (held_bytes v ++ held_members ms)) ≡ length (sized_bytes k) + length (held_bytes v ++ held_members ms) = length-append (sized_bytes k) (held_bytes v ++ held_members ms) in
      let held_behind : length (held_bytes v ++ held_members ms) ≡ length (held_bytes v) + length (held_members ms) = length-append (held_bytes v) (held_members ms) in
      let first = no_longer v in
      let others = members_no_longer ms in
      omega (arith, written, written_behind, held, held_behind, first, others)

-- ---- pairs

-- a stored pair before others
with_stored : (schema : Schema) (p : ℕ × Value) (doc : Document) → field_has (λ e. e.stored) schema p.0 ≡ true → flat_map pair_bytes (stored_pairs schema (p ∷ doc)) ≡ (u32_bytes p.0 ++ value_bytes p.1) ++ flat_map pair_bytes (stored_pairs schema doc)
with_stored schema p doc e = ap (flat_map pair_bytes) (pair_stored schema p doc e) ∙ ap (λ ys. (u32_bytes p.0 ++ ys) ++ flat_map pair_bytes (stored_pairs schema doc)) (plain_bytes p.1)

pairs_no_longer : (schema : Schema) (doc : Document) → length (flat_map pair_bytes (stored_pairs schema doc)) ≤ length (held_pairs doc)
pairs_no_longer schema [] = omega arith
pairs_no_longer schema (p ∷ doc) = go (field_has (λ e. e.stored) schema p.0) refl (pairs_no_longer schema doc)
  where
    go : (b : Bool) → field_has (λ e. e.stored) schema p.0 ≡ b → length (flat_map pair_bytes (stored_pairs schema doc)) ≤ length (held_pairs doc) → length (flat_map pair_bytes (stored_pairs schema (p ∷ doc))) ≤ length (held_pairs (p ∷ doc))
    go true e others =
        let rest = flat_map pair_bytes (stored_pairs schema doc) in
        let same : length (flat_map pair_bytes (stored_pairs schema (p ∷ doc))) ≡ length ((u32_bytes p.0 ++ value_bytes p.1) ++ rest) = ap length (with_stored schema p doc e) in
        let written : length ((u32_bytes p.0 ++ value_bytes p.1) ++ rest) ≡ length (u32_bytes p.0 ++ value_bytes p.1) + length rest = length-append (u32_bytes p.0 ++ value_bytes p.1) rest in
        let written_pair : length (u32_bytes p.0 ++ value_bytes p.1) ≡ length (u32_bytes p.0) + length (value_bytes p.1) = length-append (u32_bytes p.0) (value_bytes p.1) in
        let held : length (held_pairs (p ∷ doc)) ≡ length (held_pair p) + length (held_pairs doc) = length-append (held_pair p) (held_pairs doc) in
        let held_one : length (held_pair p) ≡ length (u32_bytes p.0) + length (held_bytes p.1) = length-append (u32_bytes p.0) (held_bytes p.1) in
        let first = no_longer p.1 in
        omega (arith, same, written, written_pair, held, held_one, first, others)
    go false e others =
        let same : length (flat_map pair_bytes (stored_pairs schema (p ∷ doc))) ≡ length (flat_map pair_bytes (stored_pairs schema doc)) = ap (λ d. length (flat_map pair_bytes d)) (pair_not_stored schema p doc e) in
        let held : length (held_pairs (p ∷ doc)) ≡ length (held_pair p) + length (held_pairs doc) = length-append (held_pair p) (held_pairs doc) in
        omega (arith, same, held, others)

-- at most ten bytes longer
pub bytes_no_longer : (schema : Schema) (doc : Document) → length doc < 2 ^ 64 → length (document_bytes (stored_pairs schema doc)) ≤ length (held_pairs doc) + 10
bytes_no_longer schema doc small =
    let stored = stored_pairs schema doc in
    let few = few_stored schema doc in
    let count_fits : length stored < 2 ^ 64 = omega (arith, few, small) in
    let count = short_count (length stored) count_fits in
    let pairs = pairs_no_longer schema doc in
    let all : length (document_bytes stored) ≡ length (vint_bytes (length stored)) + length (flat_map pair_bytes stored) = length-append (vint_bytes (length stored)) (flat_map pair_bytes stored) in
    omega (arith, count, pairs, all)

-- how many bytes a document takes
pub heap_length : (heap : List ℕ) (n : ℕ) → IsHeap heap n → length heap ≡ length (held_pairs (pairs_at n heap))
heap_length heap n held = ap length held.1.spelled ∙ ap (λ d. length (held_pairs d)) (sym (pairs_held heap n held.0 held.1))
