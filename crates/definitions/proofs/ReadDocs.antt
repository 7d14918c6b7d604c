-- A document that is read has values of the schema's fields, without tokens.
use Rattle.std.proofs.Common.{[], Bool, codes, drop, if◌then◌else◌, length, nat_eq, nat_lt, neg_ℤ, option_and_then, option_map, ok_or, ◌^◌, Err, IfOk, Ok, Result, ap, ap₂, bytes_eq, false, int_le, int_lt, pos, refl, slice_get, subst, true, ◌&&◌, ◌++◌, ◌+◌, ◌<◌, ◌∙◌, ◌∷◌, ◌≡◌, List, None, Option, Some, ℕ, ℤ}
use Rattle.std.proofs.lemmas.Option.{slice_get_within}
use Rattle.std.specs.List.{AllByRecursion, starts_with}
use Rattle.std.specs.Option.{option_map_or}
use Rattle.definitions.proofs.Lists.{all_append}
use Rattle.base64.specs.Engines.{standard}
use Rattle.base64.specs.GeneralPurpose.{decoded_of}
use Rattle.definitions.specs.Addresses.{address_in}
use Rattle.definitions.specs.Dates.{date_in}
use Rattle.definitions.specs.Facets.{facet_of_path}
use Rattle.definitions.specs.GivenDepths.{is_too_deep}
use Rattle.definitions.specs.Reading.{after_sign, below, bool_json, bool_text, date_value, decimal_in, i64_number, i64_text, if_coerced, json_members, json_value, json_values, number_value, or_parse_error, read_data, read_field, read_items, read_kind, read_member, read_members, read_object, read_value, then_read, u64_number, u64_text}
use Rattle.definitions.specs.Schema.{Entry, Kind, Schema, bool_kind, bytes_kind, date_kind, facet_kind, field_named, i64_kind, ip_addr_kind, json_kind, text_kind, u64_kind}
use Rattle.definitions.specs.Stored.{plain, plain_members, plain_values}
use Rattle.definitions.specs.Values.{Document, Value, array, bool, bytes, date, facet, i64, ip_addr, member, object, str, u64, value}
use Rattle.definitions.specs.declared.fault.Fault.{Fault}
use Rattle.definitions.specs.declared.fault.Fault.TheVariants.{FloatValue, InvalidBase64, NotAnObject, NotIndexable, OverflowError, ParseError}
use Rattle.serde_json.specs.Data as json
use Rattle.serde_json.specs.Find.{as_object}
use Rattle.serde_json.specs.Written.{has_float, number_text}

-- the value was read for its field
abbrev pub IsRead : Schema → ℕ × Value → Type 0
IsRead schema p = (e : Entry) × (slice_get schema p.0 ≡ Some e) × ((d : json.Data) × (read_value e d ≡ Ok p.1))

-- what was read, and what was not
abbrev fine : {A : Type 0} → A → Result A Fault
fine x = Ok x

abbrev refused : {A : Type 0} → Fault → Result A Fault
refused fault = Err fault

ok_same : {A : Type 0} {x y : A} → fine x ≡ fine y → x ≡ y
ok_same h = cc

err≢ok : {A : Type 0} {fault : Fault} {y : A} → refused fault ≡ fine y → ⊥
err≢ok h = cc

-- what two readings in a row gave
then_ok : {A B C : Type 0} (f : A → B → C) (ra : Result A Fault) (rb : Result B Fault) (c : C) → then_read f ra rb ≡ Ok c → (a : A) × (b : B) × (ra ≡ Ok a) × (rb ≡ Ok b) × (f a b ≡ c)
then_ok f (Ok a) (Ok b) c h = (a, b, refl, refl, ok_same h)
then_ok f (Ok a) (Err fault) c h = absurd (err≢ok h)
then_ok f (Err fault) rb c h = absurd (err≢ok h)

items_read : (schema : Schema) (field : ℕ) (e : Entry) → slice_get schema field ≡ Some e → (ds : json.Items) (doc : Document) → read_items field e ds ≡ Ok doc → AllByRecursion (IsRead schema) doc
items_read schema field e at json.no_items doc h = subst (AllByRecursion (IsRead schema)) (ok_same h) tt
items_read schema field e at (json.item d ds) doc h =
    let (v, rest, first, later, whole) = then_ok (λ v doc. (field, v) ∷ doc) (read_value e d) (read_items field e ds) doc h in
    subst (AllByRecursion (IsRead schema)) whole ((e, at, (d, first)), items_read schema field e at ds rest later)

-- a value by itself
alone_read : (schema : Schema) (field : ℕ) (e : Entry) → slice_get schema field ≡ Some e → (d : json.Data) (doc : Document) → then_read (λ v doc. (field, v) ∷ doc) (read_value e d) (Ok []) ≡ Ok doc → AllByRecursion (IsRead schema) doc
alone_read schema field e at d doc h =
    let (v, rest, first, later, whole) = then_ok (λ v doc. (field, v) ∷ doc) (read_value e d) (Ok []) doc h in
    subst (AllByRecursion (IsRead schema)) (ap (λ vs. (field, v) ∷ vs) (ok_same later) ∙ whole) ((e, at, (d, first)), tt)

field_read : (schema : Schema) (field : ℕ) (e : Entry) → slice_get schema field ≡ Some e → (d : json.Data) (doc : Document) → read_field field e d ≡ Ok doc → AllByRecursion (IsRead schema) doc
field_read schema field e at (json.array ds) doc h = items_read schema field e at ds doc h
field_read schema field e at json.null doc h = alone_read schema field e at json.null doc h
field_read schema field e at (json.boolean b) doc h = alone_read schema field e at (json.boolean b) doc h
field_read schema field e at (json.number n) doc h = alone_read schema field e at (json.number n) doc h
field_read schema field e at (json.string s) doc h = alone_read schema field e at (json.string s) doc h
field_read schema field e at (json.object ms) doc h = alone_read schema field e at (json.object ms) doc h

member_read : (schema : Schema) (key : List ℕ) (d : json.Data) (doc : Document) → read_member schema key d ≡ Ok doc → AllByRecursion (IsRead schema) doc
member_read schema key d doc h = named (field_named schema key) h
  where
    entered : (field : ℕ) (o : Option Entry) → slice_get schema field ≡ o → option_map_or (λ e. read_field field e d) o (Ok []) ≡ Ok doc → AllByRecursion (IsRead schema) doc
    entered field (Some e) at h = field_read schema field e at d doc h
    entered field None at h = subst (AllByRecursion (IsRead schema)) (ok_same h) tt

    of_field : Option ℕ → Result Document Fault
    of_field o = elim o [ None ↦ Ok [] | Some field ↦ option_map_or (λ e. read_field field e d) (slice_get schema field) (Ok []) ]

    named : (o : Option ℕ) → of_field o ≡ Ok doc → AllByRecursion (IsRead schema) doc
    named (Some field) h = entered field (slice_get schema field) refl h
    named None h = subst (AllByRecursion (IsRead schema)) (ok_same h) tt

members_read : (schema : Schema) (ms : json.Members) (doc : Document) → read_members schema ms ≡ Ok doc → AllByRecursion (IsRead schema) doc
members_read schema json.no_members doc h = subst (AllByRecursion (IsRead schema)) (ok_same h) tt
members_read schema (json.member key d ms) doc h =
    let (first, rest, here, later, whole) = then_ok ◌++◌ (read_member schema key d) (read_members schema ms) doc h in
    subst (AllByRecursion (IsRead schema)) whole (all_append (IsRead schema) first rest (member_read schema key d first here) (members_read schema ms rest later))

-- each value of a document that is read was read for its field
pub data_read : (schema : Schema) (d : json.Data) (doc : Document) → read_data schema d ≡ Ok doc → AllByRecursion (IsRead schema) doc
data_read schema d doc h = looked (is_too_deep d) h
  where
    from_object : Option json.Members → Result Document Fault
    from_object o = elim o [ None ↦ Err NotAnObject | Some ms ↦ read_members schema ms ]

    go : (o : Option json.Members) → from_object o ≡ Ok doc → AllByRecursion (IsRead schema) doc
    go (Some ms) h = members_read schema ms doc h
    go None h = absurd (err≢ok h)

    from_value : Bool → Result Document Fault
    from_value deep = if deep then Err NotIndexable else read_object schema d

    looked : (deep : Bool) → from_value deep ≡ Ok doc → AllByRecursion (IsRead schema) doc
    looked true h = absurd (err≢ok h)
    looked false h = go (as_object d) h

-- ---- what follows

-- their fields are the schema's
pub fields_known : (schema : Schema) (doc : Document) → AllByRecursion (IsRead schema) doc → AllByRecursion (λ p. p.0 < length schema) doc
fields_known schema [] h = tt
fields_known schema (p ∷ doc) h = (slice_get_within schema p.0 h.0.0 h.0.1, fields_known schema doc h.1)

-- ---- a value that is read has no tokens

abbrev IsPlain : Value → Type 0
IsPlain v = plain v ≡ v

abbrev ReadsPlain : Result Value Fault → Type 0
ReadsPlain r = IfOk r IsPlain

-- what is parsed
parsed : {X : Type 0} (make : X → Value) → ((x : X) → IsPlain (make x)) → (o : Option X) → ReadsPlain (or_parse_error (option_map make o))
parsed make each (Some x) = each x
parsed make each None = tt

coerced : (coerce : Bool) (r : Result Value Fault) → ReadsPlain r → ReadsPlain (if_coerced coerce r)
coerced true r is = is
coerced false r is = tt

i64_texts : (s : List ℕ) → ReadsPlain (or_parse_error (i64_text s))
i64_texts s = go (starts_with nat_eq s (codes "-"))
  where
    below_zero : Option ℕ
    below_zero = option_and_then (below (2 ^ 63 + 1)) (decimal_in (drop 1 s))

    others : Option ℕ
    others = option_and_then (below (2 ^ 63)) (decimal_in (after_sign (codes "+") s))

    go : (b : Bool) → ReadsPlain (or_parse_error (if b then option_map (λ n. i64 (neg_ℤ (pos n))) below_zero else option_map (λ n. i64 (pos n)) others))
    go true = parsed (λ n. i64 (neg_ℤ (pos n))) (λ n. refl) below_zero
    go false = parsed (λ n. i64 (pos n)) (λ n. refl) others

bool_texts : (s : List ℕ) → ReadsPlain (or_parse_error (bool_text s))
bool_texts s = go (bytes_eq s (codes "true")) (bytes_eq s (codes "false"))
  where
    go : (yes_ no_ : Bool) → ReadsPlain (or_parse_error (if yes_ then Some (bool true) else (if no_ then Some (bool false) else None)))
    go true other = refl
    go false true = refl
    go false false = tt

i64_numbers : (n : json.Num) → ReadsPlain (i64_number n)
i64_numbers (json.unsigned n) = go (nat_lt n (2 ^ 63))
  where
    go : (b : Bool) → ReadsPlain (if b then Ok (i64 (pos n)) else Err OverflowError)
    go true = refl
    go false = tt
i64_numbers (json.negative z) = refl
i64_numbers (json.float x) = tt

u64_numbers : (n : json.Num) → ReadsPlain (u64_number n)
u64_numbers (json.unsigned n) = refl
u64_numbers (json.negative z) = tt
u64_numbers (json.float x) = tt

number_plain : (n : json.Num) → IsPlain (number_value n)
number_plain (json.unsigned n) = go (nat_lt n (2 ^ 63))
  where
    go : (b : Bool) → IsPlain (if b then i64 (pos n) else u64 n)
    go true = refl
    go false = refl
number_plain (json.negative z) = refl
number_plain (json.float x) = refl

mutual
  value_plain : (d : json.Data) → IsPlain (json_value d)
  value_plain json.null = refl
  value_plain (json.boolean b) = refl
  value_plain (json.number n) = number_plain n
  value_plain (json.string s) = refl
  value_plain (json.array ds) = ap array (values_plain ds)
  value_plain (json.object ms) = ap object (members_plain ms)

  values_plain : (ds : json.Items) → plain_values (json_values ds) ≡ json_values ds
  values_plain json.no_items = refl
  values_plain (json.item d ds) = ap₂ value (value_plain d) (values_plain ds)

  members_plain : (ms : json.Members) → plain_members (json_members ms) ≡ json_members ms
  members_plain json.no_members = refl
  members_plain (json.member k d ms) = ap₂ (member k) (value_plain d) (members_plain ms)

dates : (s : List ℕ) → ReadsPlain (date_value s)
dates s = found (date_in s)
  where
    within : (nanos : ℤ) (b : Bool) → ReadsPlain (if b then Ok (date nanos) else Err OverflowError)
    within nanos true = refl
    within nanos false = tt

    found : (o : Option ℤ) → ReadsPlain (elim o [ None ↦ Err ParseError | Some nanos ↦ if int_le (neg_ℤ (pos (2 ^ 63))) nanos && int_lt nanos (pos (2 ^ 63)) then Ok (date nanos) else Err OverflowError ])
    found None = tt
    found (Some nanos) = within nanos (int_le (neg_ℤ (pos (2 ^ 63))) nanos && int_lt nanos (pos (2 ^ 63)))

decoded : (o : Option (List ℕ)) → ReadsPlain (ok_or (option_map bytes o) InvalidBase64)
decoded (Some bs) = refl
decoded None = tt

kind_plain : (kind : Kind) (coerce : Bool) (d : json.Data) → ReadsPlain (read_kind kind coerce d)
kind_plain text_kind coerce json.null = coerced coerce (Ok (str (codes "null"))) refl
kind_plain text_kind coerce (json.boolean b) = coerced coerce (Ok (str (bool_json b))) refl
kind_plain text_kind coerce (json.number n) = coerced coerce (Ok (str (number_text n))) refl
kind_plain text_kind coerce (json.string s) = refl
kind_plain text_kind coerce (json.array ds) = tt
kind_plain text_kind coerce (json.object ms) = tt
kind_plain u64_kind coerce json.null = tt
kind_plain u64_kind coerce (json.boolean b) = tt
kind_plain u64_kind coerce (json.number n) = u64_numbers n
kind_plain u64_kind coerce (json.string s) = coerced coerce (or_parse_error (u64_text s)) (parsed u64 (λ n. refl) (option_and_then (below (2 ^ 64)) (decimal_in (after_sign (codes "+") s))))
kind_plain u64_kind coerce (json.array ds) = tt
kind_plain u64_kind coerce (json.object ms) = tt
kind_plain i64_kind coerce json.null = tt
kind_plain i64_kind coerce (json.boolean b) = tt
kind_plain i64_kind coerce (json.number n) = i64_numbers n
kind_plain i64_kind coerce (json.string s) = coerced coerce (or_parse_error (i64_text s)) (i64_texts s)
kind_plain i64_kind coerce (json.array ds) = tt
kind_plain i64_kind coerce (json.object ms) = tt
kind_plain bool_kind coerce json.null = tt
kind_plain bool_kind coerce (json.boolean b) = refl
kind_plain bool_kind coerce (json.number n) = tt
kind_plain bool_kind coerce (json.string s) = coerced coerce (or_parse_error (bool_text s)) (bool_texts s)
kind_plain bool_kind coerce (json.array ds) = tt
kind_plain bool_kind coerce (json.object ms) = tt
kind_plain date_kind coerce json.null = tt
kind_plain date_kind coerce (json.boolean b) = tt
kind_plain date_kind coerce (json.number n) = i64_numbers n
kind_plain date_kind coerce (json.string s) = dates s
kind_plain date_kind coerce (json.array ds) = tt
kind_plain date_kind coerce (json.object ms) = tt
kind_plain facet_kind coerce json.null = tt
kind_plain facet_kind coerce (json.boolean b) = tt
kind_plain facet_kind coerce (json.number n) = tt
kind_plain facet_kind coerce (json.string s) = parsed facet (λ steps. refl) (facet_of_path s)
kind_plain facet_kind coerce (json.array ds) = tt
kind_plain facet_kind coerce (json.object ms) = tt
kind_plain bytes_kind coerce json.null = tt
kind_plain bytes_kind coerce (json.boolean b) = tt
kind_plain bytes_kind coerce (json.number n) = tt
kind_plain bytes_kind coerce (json.string s) = decoded (decoded_of standard s)
kind_plain bytes_kind coerce (json.array ds) = tt
kind_plain bytes_kind coerce (json.object ms) = tt
kind_plain json_kind coerce json.null = tt
kind_plain json_kind coerce (json.boolean b) = tt
kind_plain json_kind coerce (json.number n) = tt
kind_plain json_kind coerce (json.string s) = tt
kind_plain json_kind coerce (json.array ds) = tt
kind_plain json_kind coerce (json.object ms) = ap object (members_plain ms)
kind_plain ip_addr_kind coerce json.null = tt
kind_plain ip_addr_kind coerce (json.boolean b) = tt
kind_plain ip_addr_kind coerce (json.number n) = tt
kind_plain ip_addr_kind coerce (json.string s) = parsed ip_addr (λ n. refl) (address_in s)
kind_plain ip_addr_kind coerce (json.array ds) = tt
kind_plain ip_addr_kind coerce (json.object ms) = tt

read_plain : (e : Entry) (d : json.Data) → ReadsPlain (read_value e d)
read_plain e d = go (has_float d)
  where
    go : (b : Bool) → ReadsPlain (if b then Err FloatValue else read_kind e.kind e.coerce d)
    go true = tt
    go false = kind_plain e.kind e.coerce d

pub all_plain : (schema : Schema) (doc : Document) → AllByRecursion (IsRead schema) doc → AllByRecursion (λ p. plain p.1 ≡ p.1) doc
all_plain schema [] h = tt
all_plain schema (p ∷ doc) h = (let (e, at, (d, read)) = h.0 in subst (λ r. ReadsPlain r) read (read_plain e d), all_plain schema doc h.1)
