-- What is read of a text has values as texts give them.
use Rattle.std.proofs.Common.{[], Bool, Err, List, None, Ok, Option, Result, Some, ap, arith, codes, cond, drop, false, inl, inr, map, neg_ℤ, pos, nat_eq, refl, subst, sym, true, ◌&&◌, ◌+◌, ◌++◌, ◌^◌, ◌∙◌, ◌∷◌, ◌≡◌, ◌⊎◌, ℕ, ℤ, if◌then◌else◌}
use Rattle.std.proofs.lemmas.Bool.{or_parts}
use Rattle.std.proofs.lemmas.Bool.Decides.{nat_tests}
use Rattle.std.specs.List.{AllByRecursion, starts_with}
use Rattle.std.specs.Option.{option_map_or}
use Rattle.std.specs.Ordering.{match_ordering}
use Rattle.std.specs.Prelude.{⊤, bytes_eq, IfSome, filter, int_le, int_lt, nat_lt, ok_or, option_and_then, option_map, slice_get}
use Rattle.std.specs.declared.cmp.Ordering.{Ordering}
use Rattle.std.specs.declared.cmp.Ordering.TheVariants.{Equal, Greater, Less}
use Rattle.base64.specs.Engines.{standard}
use Rattle.base64.specs.GeneralPurpose.{decoded_of}
use Rattle.definitions.proofs.Lists.{all_append, map_some}
use Rattle.definitions.proofs.ReadDocs.{IsRead, all_plain}
use Rattle.definitions.specs.Addresses.{address_in}
use Rattle.definitions.specs.Dates.{date_in}
use Rattle.definitions.specs.Facets.{facet_of_path}
use Rattle.definitions.specs.GivenDepths.{is_too_deep}
use Rattle.definitions.specs.Reading.{after_sign, below, bool_json, bool_text, date_value, decimal_in, i64_number, i64_text, if_coerced, json_members, json_value, json_values, or_parse_error, read_data, read_field, read_items, read_json, read_kind, read_member, read_members, read_object, read_value, then_read, u64_number, u64_text}
use Rattle.definitions.specs.Schema.{Entry, Kind, Schema, bool_kind, bytes_kind, date_kind, facet_kind, field_has, field_named, i64_kind, ip_addr_kind, json_kind, text_kind, u64_kind}
use Rattle.definitions.specs.Stored.{plain, stored_pairs}
use Rattle.definitions.specs.Values.{AreMembers, AreValues, Document, IsDocument, IsValue, Members, Value, array, bool, bytes, date, facet, i64, ip_addr, member, no_members, null, object, str, u64, value}
use Rattle.definitions.specs.declared.fault.Fault.{Fault}
use Rattle.definitions.specs.declared.fault.Fault.TheVariants.{FloatValue, InvalidBase64, NotAnObject, NotIndexable, OverflowError, ParseError, TypeError}
use Rattle.json.specs.Json as tree
use Rattle.json.specs.Lex.{tokens}
use Rattle.serde_json.specs.Data.{put}
use Rattle.serde_json.specs.Read.{max_depth, number_of, of_items, of_json, of_members, read}
use Rattle.serde_json.specs.Written.{has_float, items_have_float, members_have_float, number_text}
use Rattle.serde_json.specs.Data as json
use Rattle.inspect.proofs.ReadBack.Given.{AreJson, AreJsonMembers, Ascend, IsGiven, IsJson, keys_of}
use Rattle.inspect.proofs.ReadBack.Keys.{order_of}
use Rattle.inspect.proofs.ReadBack.Members.{rises_put}
use Rattle.inspect.proofs.ReadBack.Texts.{json_keys}
use Rattle.inspect.specs.ReadBack.{WasRead}

-- ---- keys ascend in all that is read

abbrev mutual
  IsSorted : json.Data → Type 0
  IsSorted json.null = ⊤
  IsSorted (json.boolean b) = ⊤
  IsSorted (json.number n) = ⊤
  IsSorted (json.string s) = ⊤
  IsSorted (json.array ds) = AreSorted ds
  IsSorted (json.object ms) = Ascend (json_keys ms) × AreSortedMembers ms

  AreSorted : json.Items → Type 0
  AreSorted json.no_items = ⊤
  AreSorted (json.item d ds) = IsSorted d × AreSorted ds

  AreSortedMembers : json.Members → Type 0
  AreSortedMembers json.no_members = ⊤
  AreSortedMembers (json.member k d ms) = IsSorted d × AreSortedMembers ms

sorted_put : (k : List ℕ) (d : json.Data) (ms : json.Members) → IsSorted d → AreSortedMembers ms → AreSortedMembers (put k d ms)
sorted_put k d json.no_members one all = (one, tt)
sorted_put k d (json.member l e ms) one all = go (order_of k l) (sorted_put k d ms one all.1)
  where
    go : (o : Ordering) → AreSortedMembers (put k d ms) → AreSortedMembers (match_ordering o (json.member k d (json.member l e ms)) (json.member l d ms) (json.member l e (put k d ms)))
    go Less later = (one, all)
    go Equal later = (one, all.1)
    go Greater later = (all.0, later)

some_same : {A : Type 0} {x y : A} → Some x ≡ Some y → x ≡ y
some_same h = cc

from_then : {A B : Type 0} (f : A → Option B) (o : Option A) (b : B) → option_and_then f o ≡ Some b → (a : A) × (o ≡ Some a) × (f a ≡ Some b)
from_then f (Some a) b h = (a, refl, h)
from_then f None b h = absurd (cc)

mutual
  json_sorted : (j : tree.Json) (d : json.Data) → of_json j ≡ Some d → IsSorted d
  json_sorted tree.null d h = subst IsSorted (some_same h) tt
  json_sorted (tree.boolean b) d h = subst IsSorted (some_same h) tt
  json_sorted (tree.number s) d h = (let n = map_some json.number (number_of s) d h in subst IsSorted n.2 tt)
  json_sorted (tree.string s) d h = subst IsSorted (some_same h) tt
  json_sorted (tree.array js) d h = (let ds = map_some json.array (of_items js) d h in subst IsSorted ds.2 (items_sorted js ds.0 ds.1))
  json_sorted (tree.object ms) d h = (let r = map_some json.object (of_members ms json.no_members) d h in subst IsSorted r.2 (members_sorted ms json.no_members r.0 tt tt r.1))

  items_sorted : (js : tree.Items) (ds : json.Items) → of_items js ≡ Some ds → AreSorted ds
  items_sorted tree.no_items ds h = subst AreSorted (some_same h) tt
  items_sorted (tree.item j js) ds h =
      let first = from_then (λ d. option_map (json.item d) (of_items js)) (of_json j) ds h in
      let rest = map_some (json.item first.0) (of_items js) ds first.2 in
      subst AreSorted rest.2 (json_sorted j first.0 first.1, items_sorted js rest.0 rest.1)

  members_sorted : (ms : tree.Members) (found r : json.Members) → Ascend (json_keys found) → AreSortedMembers found → of_members ms found ≡ Some r → Ascend (json_keys r) × AreSortedMembers r
  members_sorted tree.no_members found r rises sorted h = subst (λ ms. Ascend (json_keys ms) × AreSortedMembers ms) (some_same h) (rises, sorted)
  members_sorted (tree.member k j ms) found r rises sorted h =
      let first = from_then (λ d. of_members ms (put k d found)) (of_json j) r h in
      members_sorted ms (put k first.0 found) r (rises_put k first.0 found rises) (sorted_put k first.0 found (json_sorted j first.0 first.1) sorted) first.2

text_sorted : (text : List ℕ) (d : json.Data) → read text ≡ Some d → IsSorted d
text_sorted text d h =
    let j = from_then of_json (option_and_then (λ p. tree.if_last p.0 p.1) (tree.value max_depth (tokens text))) d h in
    json_sorted j.0 d j.2

-- ---- what a value is that was read

abbrev fine : {A : Type 0} → A → Result A Fault
fine x = Ok x

abbrev refused : {A : Type 0} → Fault → Result A Fault
refused fault = Err fault

ok_same : {A : Type 0} {x y : A} → fine x ≡ fine y → x ≡ y
ok_same h = cc

not_ok : {A : Type 0} (fault : Fault) (y : A) → refused fault ≡ fine y → ⊥
not_ok fault y h = cc

from_coerced : (coerce : Bool) (r : Result Value Fault) (v : Value) → if_coerced coerce r ≡ Ok v → r ≡ Ok v
from_coerced true r v h = h
from_coerced false r v h = absurd (cc)

from_or : (o : Option Value) (fault : Fault) (v : Value) → ok_or o fault ≡ Ok v → o ≡ Some v
from_or (Some w) fault v h = ap Some (ok_same h)
from_or None fault v h = absurd (cc)

Shape : Kind → Value → Type 0
Shape text_kind v = (s : List ℕ) × (v ≡ str s)
Shape u64_kind v = (n : ℕ) × (v ≡ u64 n)
Shape i64_kind v = (z : ℤ) × (v ≡ i64 z)
Shape bool_kind v = (b : Bool) × (v ≡ bool b)
Shape date_kind v = ((z : ℤ) × (v ≡ date z)) ⊎ ((z : ℤ) × (v ≡ i64 z))
Shape facet_kind v = (steps : List (List ℕ)) × (v ≡ facet steps)
Shape bytes_kind v = (bs : List ℕ) × (v ≡ bytes bs)
Shape json_kind v = (ms : json.Members) × (v ≡ object (json_members ms)) × IsSorted (json.object ms) × (members_have_float ms ≡ false)
Shape ip_addr_kind v = (n : ℕ) × (v ≡ ip_addr n)

u64_shape : (n : json.Num) (v : Value) → u64_number n ≡ Ok v → (m : ℕ) × (v ≡ u64 m)
u64_shape (json.unsigned n) v h = (n, sym (ok_same h))
u64_shape (json.negative z) v h = absurd (cc)
u64_shape (json.float x) v h = absurd (cc)

i64_shape : (n : json.Num) (v : Value) → i64_number n ≡ Ok v → (z : ℤ) × (v ≡ i64 z)
i64_shape (json.unsigned n) v h = go (nat_lt n (2 ^ 63)) h
  where
    go : (b : Bool) → (if b then Ok (i64 (pos n)) else Err OverflowError) ≡ fine v → (z : ℤ) × (v ≡ i64 z)
    go true is = (pos n, sym (ok_same is))
    go false is = absurd (not_ok OverflowError v is)
i64_shape (json.negative z) v h = (z, sym (ok_same h))
i64_shape (json.float x) v h = absurd (cc)

u64_text_shape : (s : List ℕ) (v : Value) → u64_text s ≡ Some v → (m : ℕ) × (v ≡ u64 m)
u64_text_shape s v h = (let o = map_some u64 (option_and_then (below (2 ^ 64)) (decimal_in (after_sign (codes "+") s))) v h in (o.0, sym o.2))

i64_text_shape : (s : List ℕ) (v : Value) → i64_text s ≡ Some v → (z : ℤ) × (v ≡ i64 z)
i64_text_shape s v h = go (starts_with nat_eq s (codes "-")) h
  where
    go : (b : Bool) → (if b then option_map (λ n. i64 (neg_ℤ (pos n))) (option_and_then (below (2 ^ 63 + 1)) (decimal_in (drop 1 s))) else option_map (λ n. i64 (pos n)) (option_and_then (below (2 ^ 63)) (decimal_in (after_sign (codes "+") s)))) ≡ Some v → (z : ℤ) × (v ≡ i64 z)
    go true is = (let o = map_some (λ n. i64 (neg_ℤ (pos n))) (option_and_then (below (2 ^ 63 + 1)) (decimal_in (drop 1 s))) v is in (neg_ℤ (pos o.0), sym o.2))
    go false is = (let o = map_some (λ n. i64 (pos n)) (option_and_then (below (2 ^ 63)) (decimal_in (after_sign (codes "+") s))) v is in (pos o.0, sym o.2))

bool_text_shape : (s : List ℕ) (v : Value) → bool_text s ≡ Some v → (b : Bool) × (v ≡ bool b)
bool_text_shape s v h = go (bytes_eq s (codes "true")) (bytes_eq s (codes "false")) h
  where
    go : (a b : Bool) → (if a then Some (bool true) else (if b then Some (bool false) else None)) ≡ Some v → (c : Bool) × (v ≡ bool c)
    go true b is = (true, sym (some_same is))
    go false true is = (false, sym (some_same is))
    go false false is = absurd (cc)

date_shape : (s : List ℕ) (v : Value) → date_value s ≡ Ok v → (z : ℤ) × (v ≡ date z)
date_shape s v h = found (date_in s) h
  where
    within : (nanos : ℤ) (b : Bool) → (if b then Ok (date nanos) else Err OverflowError) ≡ fine v → (z : ℤ) × (v ≡ date z)
    within nanos true is = (nanos, sym (ok_same is))
    within nanos false is = absurd (not_ok OverflowError v is)

    found : (o : Option ℤ) → (elim o [ None ↦ Err ParseError | Some nanos ↦ if int_le (neg_ℤ (pos (2 ^ 63))) nanos && int_lt nanos (pos (2 ^ 63)) then Ok (date nanos) else Err OverflowError ]) ≡ fine v → (z : ℤ) × (v ≡ date z)
    found None is = absurd (not_ok ParseError v is)
    found (Some nanos) is = within nanos (int_le (neg_ℤ (pos (2 ^ 63))) nanos && int_lt nanos (pos (2 ^ 63))) is

shape : (k : Kind) (coerce : Bool) (d : json.Data) (v : Value) → IsSorted d → has_float d ≡ false → read_kind k coerce d ≡ Ok v → Shape k v
unfolding Shape
shape text_kind coerce json.null v sorted floats h = (codes "null", sym (ok_same (from_coerced coerce (Ok (str (codes "null"))) v h)))
shape text_kind coerce (json.boolean b) v sorted floats h = (bool_json b, sym (ok_same (from_coerced coerce (Ok (str (bool_json b))) v h)))
shape text_kind coerce (json.number n) v sorted floats h = (number_text n, sym (ok_same (from_coerced coerce (Ok (str (number_text n))) v h)))
shape text_kind coerce (json.string s) v sorted floats h = (s, sym (ok_same h))
shape text_kind coerce (json.array ds) v sorted floats h = absurd (not_ok TypeError v h)
shape text_kind coerce (json.object ms) v sorted floats h = absurd (not_ok TypeError v h)
shape u64_kind coerce json.null v sorted floats h = absurd (not_ok TypeError v h)
shape u64_kind coerce (json.boolean b) v sorted floats h = absurd (not_ok TypeError v h)
shape u64_kind coerce (json.number n) v sorted floats h = u64_shape n v h
shape u64_kind coerce (json.string s) v sorted floats h = u64_text_shape s v (from_or (u64_text s) ParseError v (from_coerced coerce (or_parse_error (u64_text s)) v h))
shape u64_kind coerce (json.array ds) v sorted floats h = absurd (not_ok TypeError v h)
shape u64_kind coerce (json.object ms) v sorted floats h = absurd (not_ok TypeError v h)
shape i64_kind coerce json.null v sorted floats h = absurd (not_ok TypeError v h)
shape i64_kind coerce (json.boolean b) v sorted floats h = absurd (not_ok TypeError v h)
shape i64_kind coerce (json.number n) v sorted floats h = i64_shape n v h
shape i64_kind coerce (json.string s) v sorted floats h = i64_text_shape s v (from_or (i64_text s) ParseError v (from_coerced coerce (or_parse_error (i64_text s)) v h))
shape i64_kind coerce (json.array ds) v sorted floats h = absurd (not_ok TypeError v h)
shape i64_kind coerce (json.object ms) v sorted floats h = absurd (not_ok TypeError v h)
shape bool_kind coerce json.null v sorted floats h = absurd (not_ok TypeError v h)
shape bool_kind coerce (json.boolean b) v sorted floats h = (b, sym (ok_same h))
shape bool_kind coerce (json.number n) v sorted floats h = absurd (not_ok TypeError v h)
shape bool_kind coerce (json.string s) v sorted floats h = bool_text_shape s v (from_or (bool_text s) ParseError v (from_coerced coerce (or_parse_error (bool_text s)) v h))
shape bool_kind coerce (json.array ds) v sorted floats h = absurd (not_ok TypeError v h)
shape bool_kind coerce (json.object ms) v sorted floats h = absurd (not_ok TypeError v h)
shape date_kind coerce json.null v sorted floats h = absurd (not_ok TypeError v h)
shape date_kind coerce (json.boolean b) v sorted floats h = absurd (not_ok TypeError v h)
shape date_kind coerce (json.number n) v sorted floats h = inr (i64_shape n v h)
shape date_kind coerce (json.string s) v sorted floats h = inl (date_shape s v h)
shape date_kind coerce (json.array ds) v sorted floats h = absurd (not_ok TypeError v h)
shape date_kind coerce (json.object ms) v sorted floats h = absurd (not_ok TypeError v h)
shape facet_kind coerce json.null v sorted floats h = absurd (not_ok TypeError v h)
shape facet_kind coerce (json.boolean b) v sorted floats h = absurd (not_ok TypeError v h)
shape facet_kind coerce (json.number n) v sorted floats h = absurd (not_ok TypeError v h)
shape facet_kind coerce (json.string s) v sorted floats h = (let o = map_some facet (facet_of_path s) v (from_or (option_map facet (facet_of_path s)) ParseError v h) in (o.0, sym o.2))
shape facet_kind coerce (json.array ds) v sorted floats h = absurd (not_ok TypeError v h)
shape facet_kind coerce (json.object ms) v sorted floats h = absurd (not_ok TypeError v h)
shape bytes_kind coerce json.null v sorted floats h = absurd (not_ok TypeError v h)
shape bytes_kind coerce (json.boolean b) v sorted floats h = absurd (not_ok TypeError v h)
shape bytes_kind coerce (json.number n) v sorted floats h = absurd (not_ok TypeError v h)
shape bytes_kind coerce (json.string s) v sorted floats h = (let o = map_some bytes (decoded_of standard s) v (from_or (option_map bytes (decoded_of standard s)) InvalidBase64 v h) in (o.0, sym o.2))
shape bytes_kind coerce (json.array ds) v sorted floats h = absurd (not_ok TypeError v h)
shape bytes_kind coerce (json.object ms) v sorted floats h = absurd (not_ok TypeError v h)
shape json_kind coerce json.null v sorted floats h = absurd (not_ok TypeError v h)
shape json_kind coerce (json.boolean b) v sorted floats h = absurd (not_ok TypeError v h)
shape json_kind coerce (json.number n) v sorted floats h = absurd (not_ok TypeError v h)
shape json_kind coerce (json.string s) v sorted floats h = absurd (not_ok TypeError v h)
shape json_kind coerce (json.array ds) v sorted floats h = absurd (not_ok TypeError v h)
shape json_kind coerce (json.object ms) v sorted floats h = (ms, sym (ok_same h), sorted, floats)
shape ip_addr_kind coerce json.null v sorted floats h = absurd (not_ok TypeError v h)
shape ip_addr_kind coerce (json.boolean b) v sorted floats h = absurd (not_ok TypeError v h)
shape ip_addr_kind coerce (json.number n) v sorted floats h = absurd (not_ok TypeError v h)
shape ip_addr_kind coerce (json.string s) v sorted floats h = (let o = map_some ip_addr (address_in s) v (from_or (option_map ip_addr (address_in s)) ParseError v h) in (o.0, sym o.2))
shape ip_addr_kind coerce (json.array ds) v sorted floats h = absurd (not_ok TypeError v h)
shape ip_addr_kind coerce (json.object ms) v sorted floats h = absurd (not_ok TypeError v h)

-- ---- JSON inside a value

keys_read : (ms : json.Members) → keys_of (json_members ms) ≡ json_keys ms
keys_read json.no_members = refl
keys_read (json.member k d ms) = ap (λ ks. k ∷ ks) (keys_read ms)

mutual
  json_given : (d : json.Data) → IsSorted d → has_float d ≡ false → IsValue (json_value d) → IsJson (json_value d)
  json_given json.null sorted floats is = tt
  json_given (json.boolean b) sorted floats is = tt
  json_given (json.number (json.unsigned n)) sorted floats is = go (nat_lt n (2 ^ 63)) refl is
    where
      go : (b : Bool) → nat_lt n (2 ^ 63) ≡ b → IsValue (if b then i64 (pos n) else u64 n) → IsJson (if b then i64 (pos n) else u64 n)
      go true less v = v
      go false less v = (grind (arith, nat_tests, less), v)
  json_given (json.number (json.negative z)) sorted floats is = is
  json_given (json.number (json.float x)) sorted floats is = tt
  json_given (json.string s) sorted floats is = tt
  json_given (json.array ds) sorted floats is = items_given ds sorted floats is
  json_given (json.object ms) sorted floats is = (subst Ascend (sym (keys_read ms)) sorted.0, members_given ms sorted.1 floats is)

  items_given : (ds : json.Items) → AreSorted ds → items_have_float ds ≡ false → AreValues (json_values ds) → AreJson (json_values ds)
  items_given json.no_items sorted floats is = tt
  items_given (json.item d ds) sorted floats is = (let f = or_parts (has_float d) (items_have_float ds) floats in (json_given d sorted.0 f.0 is.0, items_given ds sorted.1 f.1 is.1))

  members_given : (ms : json.Members) → AreSortedMembers ms → members_have_float ms ≡ false → AreMembers (json_members ms) → AreJsonMembers (json_members ms)
  members_given json.no_members sorted floats is = tt
  members_given (json.member k d ms) sorted floats is = (let f = or_parts (has_float d) (members_have_float ms) floats in (json_given d sorted.0 f.0 is.1, members_given ms sorted.1 f.1 is.2))

given : (k : Kind) (v : Value) → Shape k v → IsValue v → IsGiven k v
unfolding Shape
given text_kind v h is = h
given u64_kind v h is = (h.0, h.1, subst IsValue h.1 is)
given i64_kind v h is = (h.0, h.1, subst IsValue h.1 is)
given bool_kind v h is = h
given date_kind v (inl h) is = inl (h.0, h.1, subst IsValue h.1 is)
given date_kind v (inr h) is = inr (h.0, h.1, subst IsValue h.1 is)
given facet_kind v h is = (h.0, h.1, subst IsValue h.1 is)
given bytes_kind v h is = (h.0, h.1, subst IsValue h.1 is)
given json_kind v h is = (json_members h.0, h.1, json_given (json.object h.0) h.2 h.3 (subst IsValue h.1 is))
given ip_addr_kind v h is = (h.0, h.1, subst IsValue h.1 is)

value_given : (e : Entry) (d : json.Data) (v : Value) → IsSorted d → read_value e d ≡ Ok v → IsValue v → IsGiven e.kind v
value_given e d v sorted h is = given e.kind v (go (has_float d) refl h) is
  where
    go : (b : Bool) → has_float d ≡ b → (if b then Err FloatValue else read_kind e.kind e.coerce d) ≡ fine v → Shape e.kind v
    go true floats was = absurd (not_ok FloatValue v was)
    go false floats was = shape e.kind e.coerce d v sorted floats was

-- ---- documents

-- what two readings in a row gave
pub then_ok : {A B C : Type 0} (f : A → B → C) (r : Result A Fault) (s : Result B Fault) (c : C) → then_read f r s ≡ Ok c → (a : A) × (b : B) × (r ≡ Ok a) × (s ≡ Ok b) × (c ≡ f a b)
then_ok f (Ok a) (Ok b) c e = (a, b, refl, refl, cc)
then_ok f (Ok a) (Err fault) c e = absurd (cc)
then_ok f (Err fault) s c e = absurd (cc)

-- a value was read for its field, of JSON whose keys ascend
abbrev Sorted : Schema → ℕ × Value → Type 0
Sorted schema p = (e : Entry) × (d : json.Data) × (slice_get schema p.0 ≡ Some e) × IsSorted d × (read_value e d ≡ Ok p.1)

abbrev AllSorted : Schema → Document → Type 0
AllSorted schema doc = AllByRecursion (Sorted schema) doc

items_read : (schema : Schema) (field : ℕ) (e : Entry) → slice_get schema field ≡ Some e → (ds : json.Items) (doc : Document) → AreSorted ds → read_items field e ds ≡ Ok doc → AllSorted schema doc
items_read schema field e at json.no_items doc sorted h = subst (AllSorted schema) (ok_same h) tt
items_read schema field e at (json.item d ds) doc sorted h =
    let parts = then_ok (λ v doc. (field, v) ∷ doc) (read_value e d) (read_items field e ds) doc h in
    subst (AllSorted schema) (sym parts.4) ((e, d, at, sorted.0, parts.2), items_read schema field e at ds parts.1 sorted.1 parts.3)

alone_read : (schema : Schema) (field : ℕ) (e : Entry) → slice_get schema field ≡ Some e → (d : json.Data) (doc : Document) → IsSorted d → then_read (λ v doc. (field, v) ∷ doc) (read_value e d) (Ok []) ≡ Ok doc → AllSorted schema doc
alone_read schema field e at d doc sorted h =
    let parts = then_ok (λ v doc. (field, v) ∷ doc) (read_value e d) (Ok []) doc h in
    subst (AllSorted schema) (ap (λ vs. (field, parts.0) ∷ vs) (ok_same parts.3) ∙ sym parts.4) ((e, d, at, sorted, parts.2), tt)

field_read : (schema : Schema) (field : ℕ) (e : Entry) → slice_get schema field ≡ Some e → (d : json.Data) (doc : Document) → IsSorted d → read_field field e d ≡ Ok doc → AllSorted schema doc
field_read schema field e at (json.array ds) doc sorted h = items_read schema field e at ds doc sorted h
field_read schema field e at json.null doc sorted h = alone_read schema field e at json.null doc sorted h
field_read schema field e at (json.boolean b) doc sorted h = alone_read schema field e at (json.boolean b) doc sorted h
field_read schema field e at (json.number n) doc sorted h = alone_read schema field e at (json.number n) doc sorted h
field_read schema field e at (json.string s) doc sorted h = alone_read schema field e at (json.string s) doc sorted h
field_read schema field e at (json.object ms) doc sorted h = alone_read schema field e at (json.object ms) doc sorted h

member_read : (schema : Schema) (key : List ℕ) (d : json.Data) (doc : Document) → IsSorted d → read_member schema key d ≡ Ok doc → AllSorted schema doc
member_read schema key d doc sorted h = named (field_named schema key) h
  where
    kept : (field : ℕ) (o : Option Entry) → slice_get schema field ≡ o → option_map_or (λ e. read_field field e d) o (Ok []) ≡ Ok doc → AllSorted schema doc
    kept field (Some e) at is = field_read schema field e at d doc sorted is
    kept field None at is = subst (AllSorted schema) (ok_same is) tt

    named : (o : Option ℕ) → (elim o [ None ↦ Ok [] | Some field ↦ option_map_or (λ e. read_field field e d) (slice_get schema field) (Ok []) ]) ≡ fine doc → AllSorted schema doc
    named None is = subst (AllSorted schema) (ok_same is) tt
    named (Some field) is = kept field (slice_get schema field) refl is

members_read : (schema : Schema) (ms : json.Members) (doc : Document) → AreSortedMembers ms → read_members schema ms ≡ Ok doc → AllSorted schema doc
members_read schema json.no_members doc sorted h = subst (AllSorted schema) (ok_same h) tt
members_read schema (json.member key d ms) doc sorted h =
    let parts = then_ok ◌++◌ (read_member schema key d) (read_members schema ms) doc h in
    subst (AllSorted schema) (sym parts.4) (all_append (Sorted schema) parts.0 parts.1 (member_read schema key d parts.0 sorted.0 parts.2) (members_read schema ms parts.1 sorted.1 parts.3))

object_read : (schema : Schema) (d : json.Data) (doc : Document) → IsSorted d → read_object schema d ≡ Ok doc → AllSorted schema doc
object_read schema (json.object ms) doc sorted h = members_read schema ms doc sorted.1 h
object_read schema json.null doc sorted h = absurd (not_ok NotAnObject doc h)
object_read schema (json.boolean b) doc sorted h = absurd (not_ok NotAnObject doc h)
object_read schema (json.number n) doc sorted h = absurd (not_ok NotAnObject doc h)
object_read schema (json.string s) doc sorted h = absurd (not_ok NotAnObject doc h)
object_read schema (json.array ds) doc sorted h = absurd (not_ok NotAnObject doc h)

data_read : (schema : Schema) (d : json.Data) (doc : Document) → IsSorted d → read_data schema d ≡ Ok doc → AllSorted schema doc
data_read schema d doc sorted h = go (is_too_deep d) h
  where
    go : (b : Bool) → (if b then Err NotIndexable else read_object schema d) ≡ fine doc → AllSorted schema doc
    go true is = absurd (not_ok NotIndexable doc is)
    go false is = object_read schema d doc sorted is

text_read : (schema : Schema) (text : List ℕ) (doc : Document) → read_json schema text ≡ Ok doc → AllSorted schema doc
text_read schema text doc h = go (read text) refl h
  where
    go : (o : Option json.Data) → read text ≡ o → (elim o [ None ↦ Err NotAnObject | Some d ↦ read_data schema d ]) ≡ fine doc → AllSorted schema doc
    go None is was = absurd (not_ok NotAnObject doc was)
    go (Some d) is was = data_read schema d doc (text_sorted text d is) was

-- ---- what is stored of them

abbrev Given : Schema → ℕ × Value → Type 0
Given schema p = IfSome (slice_get schema p.0) (λ e. IsGiven e.kind p.1)

pair_given : (schema : Schema) (field : ℕ) (v : Value) → Sorted schema (field, v) → IsValue v → plain v ≡ v → Given schema (field, plain v)
pair_given schema field v (e, d, at, sorted, was) is same =
    subst (λ o. IfSome o (λ e. IsGiven e.kind (plain v))) (sym at) (subst (IsGiven e.kind) (sym same) (value_given e d v sorted was is))

pairs_given : (schema : Schema) (doc : Document) → AllSorted schema doc → IsDocument doc → AllByRecursion (λ p. plain p.1 ≡ p.1) doc → AllByRecursion (Given schema) (stored_pairs schema doc)
pairs_given schema [] sorted is same = tt
pairs_given schema ((field, v) ∷ doc) sorted is same = go (field_has (λ e. e.stored) schema field) (pairs_given schema doc sorted.1 is.1 same.1)
  where
    go : (b : Bool) → AllByRecursion (Given schema) (stored_pairs schema doc) → AllByRecursion (Given schema) (map (λ p. (p.0, plain p.1)) (cond b ((field, v) ∷ filter (λ p. field_has (λ e. e.stored) schema p.0) doc) (filter (λ p. field_has (λ e. e.stored) schema p.0) doc)))
    go true later = (pair_given schema field v sorted.0 is.0.1 same.0, later)
    go false later = later

was_read : (schema : Schema) (doc : Document) → AllSorted schema doc → AllByRecursion (IsRead schema) doc
was_read schema [] sorted = tt
was_read schema (p ∷ doc) sorted = (let (e, d, at, ascends, was) = sorted.0 in (e, at, (d, was)), was_read schema doc sorted.1)

pub stored_given : (schema : Schema) (doc : Document) → WasRead schema doc → AllByRecursion (λ p. IfSome (slice_get schema p.0) (λ e. IsGiven e.kind p.1)) (stored_pairs schema doc)
stored_given schema doc w =
    let sorted = text_read schema w.text doc w.read in
    pairs_given schema doc sorted w.values (all_plain schema doc (was_read schema doc sorted))

-- and they are stored as they are
pub stored_plain : (schema : Schema) (doc : Document) → WasRead schema doc → AllByRecursion (λ p. plain p.1 ≡ p.1) doc
stored_plain schema doc w = all_plain schema doc (was_read schema doc (text_read schema w.text doc w.read))
