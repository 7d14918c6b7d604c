-- Values are read back from what is printed of them.
use Rattle.std.proofs.Common.{[], Bool, List, None, Ok, Some, ap, ap₂, arith, false, le-leb, le-ltb, lt-ltb, map, negsuc, pos, refl, subst, suc, sym, true, zero, if◌then◌else◌, inl, inr, ◌&&◌, ◌∙◌, ◌∷◌, ◌<◌, ◌^◌, ◌≡◌, ℕ, ℤ}
use Rattle.std.proofs.lemmas.Bool.{cond-false, cond-true}
use Rattle.std.specs.Int.{w64}
use Rattle.std.specs.List.{AllByRecursion}
use Rattle.std.specs.Prelude.{Err, FitsSigned, int_le, int_lt, nat_lt, neg_ℤ, ok_or, option_map}
use Rattle.std.specs.Result.{result_ok}
use Rattle.base64.specs.Engines.{standard}
use Rattle.base64.specs.GeneralPurpose.{IsBytes, decoded_of, encode_of}
use Rattle.base64.proofs.EngineFacts.{decode_of-encode_of}
use Rattle.serde_json.specs.Written.{has_float, items_have_float, members_have_float}
use Rattle.serde_json.specs.Data as json
use Rattle.definitions.proofs.FacetPaths.{facet_reads_back}
use Rattle.definitions.proofs.Lists.{neither}
use Rattle.definitions.specs.Printed.{int_json, printed, printed_list, printed_onto, printed_values}
use Rattle.definitions.specs.Reading.{i64_number, json_members, json_value, json_values, number_value, or_parse_error, read_items, read_kind, read_value}
use Rattle.definitions.specs.Schema.{Entry, Kind, bool_kind, bytes_kind, date_kind, facet_kind, i64_kind, ip_addr_kind, json_kind, text_kind, u64_kind}
use Rattle.definitions.specs.Values.{Members, Value, Values, array, bool, bytes, date, facet, i64, ip_addr, member, no_members, no_values, null, object, pre_tok_str, str, u64, value}
use Rattle.definitions.specs.declared.fault.Fault.TheVariants.{InvalidBase64, OverflowError, ParseError}
use Rattle.inspect.proofs.ReadBack.Given.{AreJson, AreJsonMembers, Ascend, IsGiven, IsJson, keys_of}
use Rattle.inspect.proofs.ReadBack.Keys.{AllBefore, more_before}
use Rattle.inspect.proofs.ReadBack.Addresses.{address_back}
use Rattle.inspect.proofs.ReadBack.Dates.{date_back}
use Rattle.inspect.proofs.ReadBack.Texts.{ArePlain, ArePlainMembers, IsPlain, IsWhole, joined, joined_none, joined_one, json_keys, keys_joined, none_before, put_last}

-- ---- whole numbers

whole_int : (z : ℤ) → FitsSigned w64 z → IsWhole (int_json z)
whole_int (pos n) h = omega (arith, h)
whole_int (negsuc n) h = omega (arith, h)

int_back : (z : ℤ) → FitsSigned w64 z → i64_number (int_json z) ≡ Ok (i64 z)
int_back (pos n) h = cond-true (nat_lt n (2 ^ 63)) _ _ (lt-ltb n (2 ^ 63) (omega (arith, h)))
int_back (negsuc n) h = refl

int_value : (z : ℤ) → FitsSigned w64 z → number_value (int_json z) ≡ i64 z
int_value (pos n) h = cond-true (nat_lt n (2 ^ 63)) _ _ (lt-ltb n (2 ^ 63) (omega (arith, h)))
int_value (negsuc n) h = refl

-- ---- members, printed in their order

abbrev pub printed_each : Members → json.Members
printed_each no_members = json.no_members
printed_each (member k v ms) = json.member k (printed v) (printed_each ms)

keys_printed : (ms : Members) → json_keys (printed_each ms) ≡ keys_of ms
keys_printed no_members = refl
keys_printed (member k v ms) = ap (λ ks. k ∷ ks) (keys_printed ms)

printed_behind : (ms : Members) (before : json.Members) → AllBefore (json_keys before) (keys_of ms) → Ascend (keys_of ms) → printed_onto before ms ≡ joined before (printed_each ms)
printed_behind no_members before all rises = sym (joined_none before)
printed_behind (member k v ms) before all rises =
    ap (λ b. printed_onto b ms) (put_last before k (printed v) all.0)
    ∙ printed_behind ms (joined before (json.member k (printed v) json.no_members)) (subst (λ ks. AllBefore ks (keys_of ms)) (sym (keys_joined before k (printed v))) (more_before (json_keys before) k (keys_of ms) all.1 rises.0)) rises.1
    ∙ joined_one before k (printed v) (printed_each ms)

in_order : (ms : Members) → Ascend (keys_of ms) → printed_onto json.no_members ms ≡ printed_each ms
in_order ms rises = printed_behind ms json.no_members (none_before (keys_of ms)) rises

-- ---- values inside JSON fields

mutual
  pub json_back : (v : Value) → IsJson v → json_value (printed v) ≡ v
  json_back null h = refl
  json_back (str s) h = refl
  json_back (pre_tok_str s ts) h = absurd h
  json_back (u64 n) h = cond-false (nat_lt n (2 ^ 63)) _ _ (le-ltb n (2 ^ 63) h.0)
  json_back (i64 z) h = int_value z h
  json_back (bool b) h = refl
  json_back (date z) h = absurd h
  json_back (facet steps) h = absurd h
  json_back (bytes bs) h = absurd h
  json_back (ip_addr n) h = absurd h
  json_back (array vs) h = ap array (json_all_back vs h)
  json_back (object ms) h = ap object (ap json_members (in_order ms h.0) ∙ json_members_back ms h.1)

  json_all_back : (vs : Values) → AreJson vs → json_values (printed_values vs) ≡ vs
  json_all_back no_values h = refl
  json_all_back (value v vs) h = ap₂ value (json_back v h.0) (json_all_back vs h.1)

  json_members_back : (ms : Members) → AreJsonMembers ms → json_members (printed_each ms) ≡ ms
  json_members_back no_members h = refl
  json_members_back (member k v ms) h = ap₂ (member k) (json_back v h.0) (json_members_back ms h.1)

mutual
  json_plain : (v : Value) → IsJson v → IsPlain (printed v)
  json_plain null h = tt
  json_plain (str s) h = tt
  json_plain (pre_tok_str s ts) h = absurd h
  json_plain (u64 n) h = h.1
  json_plain (i64 z) h = whole_int z h
  json_plain (bool b) h = tt
  json_plain (date z) h = absurd h
  json_plain (facet steps) h = absurd h
  json_plain (bytes bs) h = absurd h
  json_plain (ip_addr n) h = absurd h
  json_plain (array vs) h = json_all_plain vs h
  json_plain (object ms) h =
      subst (λ js. Ascend (json_keys js) × ArePlainMembers js) (sym (in_order ms h.0)) (subst Ascend (sym (keys_printed ms)) h.0, json_members_plain ms h.1)

  json_all_plain : (vs : Values) → AreJson vs → ArePlain (printed_values vs)
  json_all_plain no_values h = tt
  json_all_plain (value v vs) h = (json_plain v h.0, json_all_plain vs h.1)

  json_members_plain : (ms : Members) → AreJsonMembers ms → ArePlainMembers (printed_each ms)
  json_members_plain no_members h = tt
  json_members_plain (member k v ms) h = (json_plain v h.0, json_members_plain ms h.1)

-- ---- no floats

no_float_num : (n : json.Num) → IsWhole n → has_float (json.number n) ≡ false
no_float_num (json.unsigned n) h = refl
no_float_num (json.negative z) h = refl
no_float_num (json.float x) h = absurd h

mutual
  no_float : (d : json.Data) → IsPlain d → has_float d ≡ false
  no_float json.null h = refl
  no_float (json.boolean b) h = refl
  no_float (json.number n) h = no_float_num n h
  no_float (json.string s) h = refl
  no_float (json.array ds) h = no_floats ds h
  no_float (json.object ms) h = no_member_floats ms h.1

  no_floats : (ds : json.Items) → ArePlain ds → items_have_float ds ≡ false
  no_floats json.no_items h = refl
  no_floats (json.item d ds) h = neither _ _ (no_float d h.0) (no_floats ds h.1)

  no_member_floats : (ms : json.Members) → ArePlainMembers ms → members_have_float ms ≡ false
  no_member_floats json.no_members h = refl
  no_member_floats (json.member k d ms) h = neither _ _ (no_float d h.0) (no_member_floats ms h.1)

-- ---- values of fields

bytes_below : (bs : List ℕ) → AllByRecursion (λ b. b < 2 ^ 8) bs → IsBytes bs
bytes_below [] h i = omega arith
bytes_below (b ∷ bs) h zero = h.0
bytes_below (b ∷ bs) h (suc i) = bytes_below bs h.1 i

bytes_back : (bs : List ℕ) → AllByRecursion (λ b. b < 2 ^ 8) bs → decoded_of standard (encode_of standard bs) ≡ Some bs
unfolding decoded_of
bytes_back bs h = ap result_ok (decode_of-encode_of standard bs refl (bytes_below bs h))

date_within : (z : ℤ) → FitsSigned w64 z → (int_le (neg_ℤ (pos (2 ^ 63))) z && int_lt z (pos (2 ^ 63))) ≡ true
date_within (pos n) h = lt-ltb n (2 ^ 63) (omega (arith, h))
date_within (negsuc n) h = ap (λ b. b && true) (le-leb n 9223372036854775807 (omega (arith, h)))

date_given : (z : ℤ) → FitsSigned w64 z → read_kind date_kind false (printed (date z)) ≡ Ok (date z)
date_given z h =
    ap (λ o. elim o [ None ↦ Err ParseError | Some nanos ↦ if int_le (neg_ℤ (pos (2 ^ 63))) nanos && int_lt nanos (pos (2 ^ 63)) then Ok (date nanos) else Err OverflowError ]) (date_back z h)
    ∙ cond-true (int_le (neg_ℤ (pos (2 ^ 63))) z && int_lt z (pos (2 ^ 63))) _ _ (date_within z h)

pub kind_back : (k : Kind) (coerce : Bool) (v : Value) → IsGiven k v → read_kind k coerce (printed v) ≡ Ok v
kind_back text_kind coerce v h = ap (λ x. read_kind text_kind coerce (printed x)) h.1 ∙ ap Ok (sym h.1)
kind_back u64_kind coerce v h = ap (λ x. read_kind u64_kind coerce (printed x)) h.1 ∙ ap Ok (sym h.1)
kind_back i64_kind coerce v h = ap (λ x. read_kind i64_kind coerce (printed x)) h.1 ∙ int_back h.0 h.2 ∙ ap Ok (sym h.1)
kind_back bool_kind coerce v h = ap (λ x. read_kind bool_kind coerce (printed x)) h.1 ∙ ap Ok (sym h.1)
kind_back date_kind coerce v (inl h) = ap (λ x. read_kind date_kind coerce (printed x)) h.1 ∙ date_given h.0 h.2 ∙ ap Ok (sym h.1)
kind_back date_kind coerce v (inr h) = ap (λ x. read_kind date_kind coerce (printed x)) h.1 ∙ int_back h.0 h.2 ∙ ap Ok (sym h.1)
kind_back facet_kind coerce v h = ap (λ x. read_kind facet_kind coerce (printed x)) h.1 ∙ ap (λ o. or_parse_error (option_map facet o)) (facet_reads_back h.0 h.2) ∙ ap Ok (sym h.1)
kind_back bytes_kind coerce v h = ap (λ x. read_kind bytes_kind coerce (printed x)) h.1 ∙ ap (λ o. ok_or (option_map bytes o) InvalidBase64) (bytes_back h.0 h.2) ∙ ap Ok (sym h.1)
kind_back json_kind coerce v h = ap (λ x. read_kind json_kind coerce (printed x)) h.1 ∙ ap Ok (json_back (object h.0) h.2 ∙ sym h.1)
kind_back ip_addr_kind coerce v h = ap (λ x. read_kind ip_addr_kind coerce (printed x)) h.1 ∙ ap (λ o. or_parse_error (option_map ip_addr o)) (address_back h.0 h.2) ∙ ap Ok (sym h.1)

pub kind_plain : (k : Kind) (v : Value) → IsGiven k v → IsPlain (printed v)
kind_plain text_kind v h = subst (λ x. IsPlain (printed x)) (sym h.1) tt
kind_plain u64_kind v h = subst (λ x. IsPlain (printed x)) (sym h.1) h.2
kind_plain i64_kind v h = subst (λ x. IsPlain (printed x)) (sym h.1) (whole_int h.0 h.2)
kind_plain bool_kind v h = subst (λ x. IsPlain (printed x)) (sym h.1) tt
kind_plain date_kind v (inl h) = subst (λ x. IsPlain (printed x)) (sym h.1) tt
kind_plain date_kind v (inr h) = subst (λ x. IsPlain (printed x)) (sym h.1) (whole_int h.0 h.2)
kind_plain facet_kind v h = subst (λ x. IsPlain (printed x)) (sym h.1) tt
kind_plain bytes_kind v h = subst (λ x. IsPlain (printed x)) (sym h.1) tt
kind_plain json_kind v h = subst (λ x. IsPlain (printed x)) (sym h.1) (json_plain (object h.0) h.2)
kind_plain ip_addr_kind v h = subst (λ x. IsPlain (printed x)) (sym h.1) tt

pub value_back : (e : Entry) (v : Value) → IsGiven e.kind v → read_value e (printed v) ≡ Ok v
value_back e v h = cond-false (has_float (printed v)) _ _ (no_float (printed v) (kind_plain e.kind v h)) ∙ kind_back e.kind e.coerce v h

-- ---- the values of a field

pub items_back : (field : ℕ) (e : Entry) (vs : List Value) → AllByRecursion (IsGiven e.kind) vs → read_items field e (printed_list vs) ≡ Ok (map (λ v. (field, v)) vs)
items_back field e [] h = refl
items_back field e (v ∷ vs) h = rw (value_back e v h.0, items_back field e vs h.1) refl

pub items_plain : (e : Entry) (vs : List Value) → AllByRecursion (IsGiven e.kind) vs → ArePlain (printed_list vs)
items_plain e [] h = tt
items_plain e (v ∷ vs) h = (kind_plain e.kind v h.0, items_plain e vs h.1)
