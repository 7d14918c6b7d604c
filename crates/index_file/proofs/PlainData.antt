-- Schemas and settings as JSON have no float, and nest a few levels deep.
use Rattle.std.proofs.Common.{ℕ, suc, List, [], ◌∷◌, ◌≡◌, ◌≤◌, ◌==◌, Bool, Equal, Greater, Less, Option, Some, None, true, false, if◌then◌else◌, arith, bytes_eq, codes, drop, find, length, map, max, nat_cmp, nat_lt, negsuc, pos, refl, slice_get, take, ℤ}
use Rattle.std.specs.Cmp.Lexicographic.{slice_cmp}
use Rattle.std.specs.Int.{byte_len, from_be_bytes, w128, w64}
use Rattle.std.specs.List.{after_first, before_first, slice_split}
use Rattle.std.specs.Option.{option_map_or}
use Rattle.std.specs.Ordering.{match_ordering}
use Rattle.std.specs.Str.{is_utf8}
use Rattle.definitions.proofs.Lists.{neither, or_first, or_second}
use Rattle.definitions.specs.Json.{members_of, object_of}
use Rattle.definitions.specs.Printed.{int_json, printed}
use Rattle.definitions.specs.Replies.{number_data}
use Rattle.definitions.specs.Schema.{Entry, Kind, Schema, bool_kind, bytes_kind, date_kind, facet_kind, i64_kind, ip_addr_kind, json_kind, kind_name, text_kind, u64_kind}
use Rattle.definitions.specs.SchemaGrammar.{entry_data, indexing_data, options_data, record_option_name, schema_data}
use Rattle.definitions.specs.Settings.{Settings}
use Rattle.definitions.specs.SettingsGrammar.{array_of, settings_data, weight_data}
use Rattle.definitions.specs.TermData.{leaf_data, leaf_of_bytes, path_data, signed_number, term_data, term_of_entry, value_members, value_of_bytes}
use Rattle.definitions.specs.Terms.{field_of, leaf_kinds, payload_of, type_code}
use Rattle.definitions.specs.Values.{Value, bool, date, facet, i64, ip_addr, null, str, u64}
use Rattle.layouts.specs.RecordBodies.{made_data}
use Rattle.serde_json.specs.Data.{depth, items_depth, members_depth, put}
use Rattle.serde_json.specs.View.{items_of}
use Rattle.serde_json.specs.Written.{has_float, items_have_float, members_have_float}
use Rattle.serde_json.specs.Data as json

-- no float, and nothing deeper
abbrev pub IsPlain : ℕ → json.Data → Type 0
IsPlain k d = (has_float d ≡ false) × (depth d ≤ k)

abbrev ArePlainItems : ℕ → json.Items → Type 0
ArePlainItems k ds = (items_have_float ds ≡ false) × (items_depth ds ≤ k)

abbrev ArePlainMembers : ℕ → json.Members → Type 0
ArePlainMembers k ms = (members_have_float ms ≡ false) × (members_depth ms ≤ k)

-- the members of an object that is made
abbrev ArePlain : ℕ → List (List ℕ × json.Data) → Type 0
ArePlain k [] = Unit {0}
ArePlain k (m ∷ ms) = IsPlain k m.1 × ArePlain k ms

deeper : (j k : ℕ) (d : json.Data) → j ≤ k → IsPlain j d → IsPlain k d
deeper j k d more p = (let shallow = p.1 in (p.0, omega arith))

member_plain : (k : ℕ) (key : List ℕ) (d : json.Data) (ms : json.Members) → IsPlain k d → ArePlainMembers k ms → ArePlainMembers k (json.member key d ms)
member_plain k key d ms p q = (let one = p.1 in let others = q.1 in (neither (has_float d) _ p.0 q.0, omega arith))

put_plain : (k : ℕ) (key : List ℕ) (d : json.Data) (ms : json.Members) → IsPlain k d → ArePlainMembers k ms → ArePlainMembers k (put key d ms)
put_plain k key d json.no_members p q = member_plain k key d json.no_members p q
put_plain k key d (json.member l e ms) p q =
    let all : max (depth e) (members_depth ms) ≤ k = q.1 in
    let one : IsPlain k e = (or_first (has_float e) (members_have_float ms) q.0, omega arith) in
    let rest : ArePlainMembers k ms = (or_second (has_float e) (members_have_float ms) q.0, omega arith) in
    let later : ArePlainMembers k (put key d ms) = put_plain k key d ms p rest in
    elim (slice_cmp nat_cmp key l) as (λ o. ArePlainMembers k (match_ordering o (json.member key d (json.member l e ms)) (json.member l d ms) (json.member l e (put key d ms)))) [ Less ↦ member_plain k key d (json.member l e ms) p q | Equal ↦ member_plain k l d ms p rest | Greater ↦ member_plain k l e (put key d ms) one later ]

members_plain : (k : ℕ) (ms : List (List ℕ × json.Data)) → ArePlain k ms → ArePlainMembers k (members_of ms)
members_plain k [] all = (refl, omega arith)
members_plain k ((key, d) ∷ ms) all = put_plain k key d (members_of ms) all.0 (members_plain k ms all.1)

object_plain : (k : ℕ) (ms : List (List ℕ × json.Data)) → ArePlain k ms → IsPlain (suc k) (object_of ms)
object_plain k ms all =
    let p = members_plain k ms all in
    let shallow = p.1 in
    (p.0, omega arith)

items_plain : {A : Type 0} (k : ℕ) (f : A → json.Data) → ((x : A) → IsPlain k (f x)) → (xs : List A) → ArePlainItems k (items_of (map f xs))
items_plain k f each [] = (refl, omega arith)
items_plain k f each (x ∷ xs) =
    let p = each x in
    let q = items_plain k f each xs in
    let one = p.1 in
    let others = q.1 in
    (neither (has_float (f x)) _ p.0 q.0, omega arith)

array_plain : {A : Type 0} (k : ℕ) (f : A → json.Data) → ((x : A) → IsPlain k (f x)) → (xs : List A) → IsPlain (suc k) (array_of f xs)
array_plain k f each xs =
    let p = items_plain k f each xs in
    let shallow = p.1 in
    (p.0, omega arith)

string_plain : (k : ℕ) (s : List ℕ) → IsPlain k (json.string s)
string_plain k s = (refl, omega arith)

flag_plain : (k : ℕ) (b : Bool) → IsPlain k (json.boolean b)
flag_plain k b = (refl, omega arith)

null_plain : (k : ℕ) → IsPlain k json.null
null_plain k = (refl, omega arith)

number_plain : (k n : ℕ) → IsPlain k (number_data n)
number_plain k n = (refl, omega arith)

-- ---- terms

int_plain : (k : ℕ) (z : ℤ) → IsPlain k (json.number (int_json z))
int_plain k (pos n) = (refl, omega arith)
int_plain k (negsuc n) = (refl, omega arith)

-- a value, or null where a test fails
or_null : (k : ℕ) (t : Bool) (v : Value) → IsPlain k (printed v) → IsPlain k (printed (if t then v else null))
or_null k false v p = null_plain k
or_null k true v p = p

value_plain : (k : ℕ) (kind : Kind) (bs : List ℕ) → IsPlain k (printed (value_of_bytes kind bs))
value_plain k text_kind bs = or_null k (is_utf8 bs) (str bs) (string_plain k bs)
value_plain k u64_kind bs = or_null k (length bs == byte_len w64) (u64 (from_be_bytes w64 bs)) (number_plain k (from_be_bytes w64 bs))
value_plain k i64_kind bs = or_null k (length bs == byte_len w64) (i64 (signed_number bs)) (int_plain k (signed_number bs))
value_plain k bool_kind bs = or_null k (length bs == byte_len w64) (bool (nat_lt 0 (from_be_bytes w64 bs))) (flag_plain k (nat_lt 0 (from_be_bytes w64 bs)))
value_plain k date_kind bs = or_null k (length bs == byte_len w64) (date (signed_number bs)) (refl, omega arith)
value_plain k facet_kind bs = or_null k (is_utf8 bs) (facet (slice_split (◌==◌ 0) bs)) (refl, omega arith)
value_plain k bytes_kind bs = (refl, omega arith)
value_plain k json_kind bs = null_plain k
value_plain k ip_addr_kind bs = or_null k (length bs == byte_len w128) (ip_addr (from_be_bytes w128 bs)) (refl, omega arith)

or_null_leaf : (k : ℕ) (t : Bool) (v : Value) → IsPlain k (leaf_data v) → IsPlain k (leaf_data (if t then v else null))
or_null_leaf k false v p = null_plain k
or_null_leaf k true v p = p

leaf_kind_plain : (kind : Kind) (bs : List ℕ) → IsPlain 1 (leaf_data (value_of_bytes kind bs))
leaf_kind_plain text_kind bs = or_null_leaf 1 (is_utf8 bs) (str bs) (string_plain 1 bs)
leaf_kind_plain u64_kind bs = or_null_leaf 1 (length bs == byte_len w64) (u64 (from_be_bytes w64 bs)) (number_plain 1 (from_be_bytes w64 bs))
leaf_kind_plain i64_kind bs = or_null_leaf 1 (length bs == byte_len w64) (i64 (signed_number bs)) (int_plain 1 (signed_number bs))
leaf_kind_plain bool_kind bs = or_null_leaf 1 (length bs == byte_len w64) (bool (nat_lt 0 (from_be_bytes w64 bs))) (flag_plain 1 (nat_lt 0 (from_be_bytes w64 bs)))
leaf_kind_plain date_kind bs = or_null_leaf 1 (length bs == byte_len w64) (date (signed_number bs)) (object_plain 0 ((codes "date", printed (date (signed_number bs))) ∷ []) ((refl, omega arith), tt))
leaf_kind_plain facet_kind bs = or_null_leaf 1 (is_utf8 bs) (facet (slice_split (◌==◌ 0) bs)) (refl, omega arith)
leaf_kind_plain bytes_kind bs = (refl, omega arith)
leaf_kind_plain json_kind bs = null_plain 1
leaf_kind_plain ip_addr_kind bs = or_null_leaf 1 (length bs == byte_len w128) (ip_addr (from_be_bytes w128 bs)) (refl, omega arith)

leaf_plain : (bs : List ℕ) → IsPlain 1 (leaf_data (leaf_of_bytes bs))
leaf_plain bs = go (find (λ kind. bytes_eq (take 1 bs) (type_code kind)) leaf_kinds)
  where
    go : (o : Option Kind) → IsPlain 1 (leaf_data (option_map_or (λ kind. value_of_bytes kind (drop 1 bs)) o null))
    go None = null_plain 1
    go (Some kind) = leaf_kind_plain kind (drop 1 bs)

path_plain : (bs : List ℕ) → IsPlain 1 (path_data bs)
path_plain bs = go (is_utf8 bs)
  where
    go : (t : Bool) → IsPlain 1 (if t then array_of json.string (slice_split (◌==◌ 1) bs) else json.null)
    go false = null_plain 1
    go true = array_plain 0 json.string (string_plain 0) (slice_split (◌==◌ 1) bs)

value_members_plain : (kind : Kind) (bs : List ℕ) → ArePlain 1 (value_members kind bs)
value_members_plain json_kind bs = (path_plain (before_first (◌==◌ 0) bs), (leaf_plain (after_first (◌==◌ 0) bs), tt))
value_members_plain text_kind bs = (value_plain 1 text_kind bs, tt)
value_members_plain u64_kind bs = (value_plain 1 u64_kind bs, tt)
value_members_plain i64_kind bs = (value_plain 1 i64_kind bs, tt)
value_members_plain bool_kind bs = (value_plain 1 bool_kind bs, tt)
value_members_plain date_kind bs = (value_plain 1 date_kind bs, tt)
value_members_plain facet_kind bs = (value_plain 1 facet_kind bs, tt)
value_members_plain bytes_kind bs = (value_plain 1 bytes_kind bs, tt)
value_members_plain ip_addr_kind bs = (value_plain 1 ip_addr_kind bs, tt)

term_plain : (schema : Schema) (t : List ℕ) → IsPlain 2 (term_data schema t)
term_plain schema t = go (slice_get schema (field_of t))
  where
    go : (o : Option Entry) → IsPlain 2 (option_map_or (term_of_entry t) o json.null)
    go None = null_plain 2
    go (Some e) = object_plain 1 ((codes "field", json.string e.name) ∷ value_members e.kind (payload_of t)) (string_plain 1 e.name, value_members_plain e.kind (payload_of t))

-- ---- settings

weight_plain : (schema : Schema) (w : List ℕ × ℕ) → IsPlain 3 (weight_data schema w)
weight_plain schema w = object_plain 2 ((codes "term", term_data schema w.0) ∷ (codes "weight", number_data w.1) ∷ []) (term_plain schema w.0, (number_plain 2 w.1, tt))

settings_plain : (schema : Schema) (s : Settings) → IsPlain 5 (settings_data schema s)
settings_plain schema s =
    object_plain 4 ((codes "docs_per_segment", number_data s.docs_per_segment) ∷ (codes "block_size", number_data s.block_size) ∷ (codes "cache_blocks", number_data s.cache_blocks) ∷ (codes "default_weight", number_data s.default_weight) ∷ (codes "weights", array_of (weight_data schema) s.weights) ∷ (codes "norms", array_of number_data s.norms) ∷ [])
    (number_plain 4 s.docs_per_segment, (number_plain 4 s.block_size, (number_plain 4 s.cache_blocks, (number_plain 4 s.default_weight, (array_plain 3 (weight_data schema) (weight_plain schema) s.weights, (deeper 1 4 (array_of number_data s.norms) (omega arith) (array_plain 0 number_data (number_plain 0) s.norms), tt))))))

-- ---- schemas

indexing_plain : (own : List (List ℕ × json.Data)) (e : Entry) → ArePlain 0 own → IsPlain 1 (indexing_data own e)
indexing_plain own e plain = go e.indexed
  where
    go : (t : Bool) → IsPlain 1 (if t then object_of ((codes "record", json.string (record_option_name e.record_option)) ∷ (codes "fieldnorms", json.boolean e.fieldnorms) ∷ (codes "tokenizer", json.string e.tokenizer) ∷ own) else json.null)
    go false = null_plain 1
    go true = object_plain 0 ((codes "record", json.string (record_option_name e.record_option)) ∷ (codes "fieldnorms", json.boolean e.fieldnorms) ∷ (codes "tokenizer", json.string e.tokenizer) ∷ own) (string_plain 0 (record_option_name e.record_option), (flag_plain 0 e.fieldnorms, (string_plain 0 e.tokenizer, plain)))

options_plain : (e : Entry) → IsPlain 2 (options_data e)
options_plain e = go e.kind
  where
    go : (kind : Kind) → IsPlain 2 (options_data (record e { kind = kind }))
    go text_kind = object_plain 1 ((codes "stored", json.boolean e.stored) ∷ (codes "fast", json.boolean e.fast) ∷ (codes "coerce", json.boolean e.coerce) ∷ (codes "indexing", indexing_data ((codes "gap", number_data e.gap) ∷ []) e) ∷ []) (flag_plain 1 e.stored, (flag_plain 1 e.fast, (flag_plain 1 e.coerce, (indexing_plain ((codes "gap", number_data e.gap) ∷ []) e (number_plain 0 e.gap, tt), tt))))
    go json_kind = object_plain 1 ((codes "stored", json.boolean e.stored) ∷ (codes "fast", json.boolean e.fast) ∷ (codes "indexing", indexing_data [] e) ∷ (codes "expand_dots", json.boolean e.expand_dots) ∷ []) (flag_plain 1 e.stored, (flag_plain 1 e.fast, (indexing_plain [] e tt, (flag_plain 1 e.expand_dots, tt))))
    go facet_kind = object_plain 1 ((codes "stored", json.boolean e.stored) ∷ []) (flag_plain 1 e.stored, tt)
    go u64_kind = object_plain 1 ((codes "stored", json.boolean e.stored) ∷ (codes "fast", json.boolean e.fast) ∷ (codes "coerce", json.boolean e.coerce) ∷ (codes "indexed", json.boolean e.indexed) ∷ (codes "fieldnorms", json.boolean e.fieldnorms) ∷ []) (flag_plain 1 e.stored, (flag_plain 1 e.fast, (flag_plain 1 e.coerce, (flag_plain 1 e.indexed, (flag_plain 1 e.fieldnorms, tt)))))
    go i64_kind = object_plain 1 ((codes "stored", json.boolean e.stored) ∷ (codes "fast", json.boolean e.fast) ∷ (codes "coerce", json.boolean e.coerce) ∷ (codes "indexed", json.boolean e.indexed) ∷ (codes "fieldnorms", json.boolean e.fieldnorms) ∷ []) (flag_plain 1 e.stored, (flag_plain 1 e.fast, (flag_plain 1 e.coerce, (flag_plain 1 e.indexed, (flag_plain 1 e.fieldnorms, tt)))))
    go bool_kind = object_plain 1 ((codes "stored", json.boolean e.stored) ∷ (codes "fast", json.boolean e.fast) ∷ (codes "coerce", json.boolean e.coerce) ∷ (codes "indexed", json.boolean e.indexed) ∷ (codes "fieldnorms", json.boolean e.fieldnorms) ∷ []) (flag_plain 1 e.stored, (flag_plain 1 e.fast, (flag_plain 1 e.coerce, (flag_plain 1 e.indexed, (flag_plain 1 e.fieldnorms, tt)))))
    go _ = object_plain 1 ((codes "stored", json.boolean e.stored) ∷ (codes "fast", json.boolean e.fast) ∷ (codes "indexed", json.boolean e.indexed) ∷ (codes "fieldnorms", json.boolean e.fieldnorms) ∷ []) (flag_plain 1 e.stored, (flag_plain 1 e.fast, (flag_plain 1 e.indexed, (flag_plain 1 e.fieldnorms, tt))))

entry_plain : (e : Entry) → IsPlain 3 (entry_data e)
entry_plain e = object_plain 2 ((codes "name", json.string e.name) ∷ (codes "type", json.string (kind_name e.kind)) ∷ (codes "options", options_data e) ∷ []) (string_plain 2 e.name, (string_plain 2 (kind_name e.kind), (options_plain e, tt)))

schema_plain : (schema : Schema) → IsPlain 4 (schema_data schema)
schema_plain schema = array_plain 3 entry_data entry_plain schema

-- ---- both

pub made_plain : (schema : Schema) (settings : Settings) → IsPlain 6 (made_data schema settings)
made_plain schema settings = object_plain 5 ((codes "schema", schema_data schema) ∷ (codes "settings", settings_data schema settings) ∷ []) (deeper 4 5 (schema_data schema) (omega arith) (schema_plain schema), (settings_plain schema settings, tt))

pub made_float : (schema : Schema) (settings : Settings) → has_float (made_data schema settings) ≡ false
made_float schema settings = (made_plain schema settings).0

pub made_shallow : (schema : Schema) (settings : Settings) → depth (made_data schema settings) ≤ 127
made_shallow schema settings = (let shallow = (made_plain schema settings).1 in omega arith)
