-- The binary form: what was put is taken back, and what is taken was put.
use Rattle.std.proofs.Common.{[], ◌++◌, ◌<◌, ◌^◌, ◌∷◌, ◌≡◌, ◌∙◌, List, None, Option, Some, ap, ap₂, append-nil, false, flat_map, length, refl, subst, suc, sym, ℕ}
use Rattle.std.specs.List.{AllByRecursion}
use Rattle.common.proofs.TakenBack.{vint_back, vint_put}
use Rattle.definitions.specs.Json.{◌>>=◌}
use Rattle.definitions.specs.NumberCodes.{AreBytes, sized_bytes, take_vint, u32_bytes, vint_bytes}
use Rattle.definitions.specs.Stored.{plain, plain_members, plain_values}
use Rattle.definitions.specs.Values.{Document, Members, Value, Values, array, bool, bytes, date, facet, i64, ip_addr, member, no_members, no_values, null, object, pre_tok_str, str, u64, value}
use Rattle.layouts.specs.DocumentBytes.{document_bytes, members_bytes, members_count, pair_bytes, value_bytes, values_bytes, values_count}
use Rattle.document_values.specs.Docs.{IsGood, IsGoodPair}
use Rattle.document_values.specs.Held.{held_bytes, held_members, held_pair, held_pairs, held_values}
use Rattle.layouts.specs.DocumentReading.{read_document, take_many, take_pair, take_value}
use Rattle.document.proofs.HeldPairs.{pair_back, pair_put, whole}
use Rattle.document.proofs.HeldValues.{held_back, held_put}
use Rattle.common.proofs.Many.{many_back, many_put}
use Rattle.common.proofs.WordBytes.{back_bytes as bytes_after}
use Rattle.definitions.proofs.Lists.{bind_some}

-- ---- without tokens a value is held as it is written

pub count_plain : (vs : Values) → values_count (plain_values vs) ≡ values_count vs
count_plain no_values = refl
count_plain (value v vs) = ap suc (count_plain vs)

pub members_plain : (ms : Members) → members_count (plain_members ms) ≡ members_count ms
members_plain no_members = refl
members_plain (member k v ms) = ap suc (members_plain ms)

mutual
  pub plain_held : (v : Value) → held_bytes (plain v) ≡ value_bytes v
  plain_held null = refl
  plain_held (str s) = refl
  plain_held (pre_tok_str s ts) = refl
  plain_held (u64 n) = refl
  plain_held (i64 z) = refl
  plain_held (bool b) = refl
  plain_held (date z) = refl
  plain_held (facet steps) = refl
  plain_held (bytes bs) = refl
  plain_held (ip_addr n) = refl
  plain_held (array vs) = ap₂ (λ n ys. 12 ∷ (vint_bytes n ++ ys)) (count_plain vs) (values_held vs)
  plain_held (object ms) = ap₂ (λ n ys. 13 ∷ (vint_bytes n ++ ys)) (members_plain ms) (members_held ms)

  values_held : (vs : Values) → held_values (plain_values vs) ≡ values_bytes vs
  values_held no_values = refl
  values_held (value v vs) = ap₂ (λ a b. a ++ b) (plain_held v) (values_held vs)

  members_held : (ms : Members) → held_members (plain_members ms) ≡ members_bytes ms
  members_held no_members = refl
  members_held (member k v ms) = ap₂ (λ a b. sized_bytes k ++ (a ++ b)) (plain_held v) (members_held ms)

pub written : (d : ℕ) (v : Value) → IsGood false d v → held_bytes v ≡ value_bytes v
written d v good = ap held_bytes (sym (good.kept refl)) ∙ plain_held v

-- ---- values

pub value_put : (bs rest : List ℕ) (v : Value) → AreBytes bs → take_value bs ≡ Some (v, rest) → IsGood false 128 v × (bs ≡ value_bytes v ++ rest)
value_put bs rest v are e =
    let put = held_put false 128 bs rest v are e in
    (put.0, put.1 ∙ ap (λ ys. ys ++ rest) (written 128 v put.0))

pub value_back : (v : Value) (rest : List ℕ) → IsGood false 128 v → take_value (value_bytes v ++ rest) ≡ Some (v, rest)
value_back v rest good = ap (λ ys. take_value (ys ++ rest)) (sym (written 128 v good)) ∙ held_back false 128 v rest good

-- ---- documents

pairs_written : (doc : Document) → AllByRecursion (IsGoodPair false 128) doc → held_pairs doc ≡ flat_map pair_bytes doc
pairs_written [] good = refl
pairs_written (p ∷ doc) good = ap₂ (λ a b. (u32_bytes p.0 ++ a) ++ b) (written 128 p.1 good.0.value) (pairs_written doc good.1)

abbrev counted : ℕ × List ℕ → Option Document
counted n = take_many (take_pair take_value) n.0 n.1 >>= whole

whole_is : (p : Document × List ℕ) (doc : Document) → whole p ≡ Some doc → (p.0 ≡ doc) × (p.1 ≡ [])
whole_is (found, []) doc e = (ap (λ o. elim o [ None ↦ found | Some d ↦ d ]) e, refl)
whole_is (found, b ∷ bs) doc e = cc

pub document_put : (bs : List ℕ) (doc : Document) → AreBytes bs → read_document bs ≡ Some doc → AllByRecursion (IsGoodPair false 128) doc × (bs ≡ document_bytes doc)
document_put bs doc are e =
    let n = bind_some (take_vint bs) counted doc e in
    let p = bind_some (take_many (take_pair take_value) n.0.0 n.0.1) whole doc n.2 in
    let number = vint_put bs n.0.0 n.0.1 are n.1 in
    let many = many_put (take_pair take_value) (IsGoodPair false 128) held_pair (pair_put false 128) n.0.0 n.0.1 p.0.1 p.0.0 (bytes_after (vint_bytes n.0.0) n.0.1 (subst AreBytes number.1 are)) p.1 in
    let is = whole_is p.0 doc p.2 in
    subst (λ doc. AllByRecursion (IsGoodPair false 128) doc × (bs ≡ document_bytes doc)) is.0 (
      many.0,
      number.1 ∙ ap₂ (λ m ys. vint_bytes m ++ ys) (sym many.1) (many.2 ∙ ap (λ r. held_pairs p.0.0 ++ r) is.1 ∙ append-nil (held_pairs p.0.0) ∙ pairs_written p.0.0 many.0),
    )

pub document_back : (doc : Document) → AllByRecursion (IsGoodPair false 128) doc → length doc < 2 ^ 64 → read_document (document_bytes doc) ≡ Some doc
document_back doc good few =
    ap (λ ys. read_document (vint_bytes (length doc) ++ ys)) (sym (pairs_written doc good))
    ∙ ap (λ o. o >>= counted) (vint_back (length doc) (held_pairs doc) few)
    ∙ ap (λ ys. take_many (take_pair take_value) (length doc) ys >>= whole) (sym (append-nil (held_pairs doc)))
    ∙ ap (λ o. o >>= whole) (many_back (take_pair take_value) (IsGoodPair false 128) held_pair (pair_back false 128 take_value (held_back false 128)) doc [] good)
