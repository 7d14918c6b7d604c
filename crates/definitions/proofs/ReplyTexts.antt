-- Replies as texts, and that they have no float.
use Rattle.std.proofs.Common.{[], ◌∷◌, ◌≡◌, Equal, Greater, Less, List, codes, false, nat_cmp, negsuc, pos, refl, ℕ, ℤ}
use Rattle.std.specs.Ordering.{match_ordering}
use Rattle.definitions.specs.FaultNames.{reply_text}
use Rattle.definitions.specs.Printed.{int_json, printed, printed_fields, printed_list, printed_named, printed_onto, printed_values}
use Rattle.definitions.specs.Replies.{error_reply, hit_data, hits_data, hits_reply, number_data, ok_reply, reply_of}
use Rattle.definitions.specs.Scanning.{Hit}
use Rattle.definitions.specs.Stored.{Named}
use Rattle.definitions.specs.Values.{Members, Value, Values, array, bool, bytes, date, facet, i64, ip_addr, member, no_members, no_values, null, object, pre_tok_str, str, u64, value}
use Rattle.serde_json.proofs.OnLiterals.{serde_json_on_literals}
use Rattle.serde_json.specs.Data.{put}
use Rattle.serde_json.specs.Written.{has_float, items_have_float, members_have_float}
use Rattle.std.specs.Cmp.Lexicographic.{slice_cmp}
use Rattle.definitions.proofs.Lists.{neither, or_first, or_second}
use Rattle.definitions.specs.declared.fault.Fault.{Fault}
use Rattle.serde_json.specs.Data as json
use Rattle.definitions.specs.declared.fault.Fault.TheVariants as faults

-- a refusal's reply is the text of its JSON, at each fault
pub error_text : (fault : Fault) → reply_text fault ≡ reply_of (error_reply fault)
unfolding serde_json_on_literals
error_text (faults.Damaged gate) = refl
error_text _ = refl

pub ok_text : reply_of ok_reply ≡ codes "{\"ok\":true}"
unfolding serde_json_on_literals
ok_text = refl

-- a member put in its place brings no float
put_float : (k : List ℕ) (d : json.Data) (ms : json.Members) → has_float d ≡ false → members_have_float ms ≡ false → members_have_float (put k d ms) ≡ false
put_float k d json.no_members hd hms = neither (has_float d) false hd refl
put_float k d (json.member l e ms) hd hms =
    let he = or_first (has_float e) (members_have_float ms) hms in
    let rest = or_second (has_float e) (members_have_float ms) hms in
    let ih = put_float k d ms hd rest in
    elim (slice_cmp nat_cmp k l) as (λ o. members_have_float (match_ordering o (json.member k d (json.member l e ms)) (json.member l d ms) (json.member l e (put k d ms))) ≡ false) [ Less ↦ neither (has_float d) _ hd hms | Equal ↦ neither (has_float d) _ hd rest | Greater ↦ neither (has_float e) _ he ih ]

-- a whole number is no float
int_float : (z : ℤ) → has_float (json.number (int_json z)) ≡ false
int_float (pos n) = refl
int_float (negsuc n) = refl

-- a printed value has no float
mutual
  printed_float : (v : Value) → has_float (printed v) ≡ false
  printed_float null = refl
  printed_float (str s) = refl
  printed_float (pre_tok_str s ts) = refl
  printed_float (u64 n) = refl
  printed_float (i64 z) = int_float z
  printed_float (bool b) = refl
  printed_float (date nanos) = refl
  printed_float (facet steps) = refl
  printed_float (bytes bs) = refl
  printed_float (ip_addr n) = refl
  printed_float (array vs) = printed_values_float vs
  printed_float (object ms) = printed_onto_float json.no_members ms refl

  printed_values_float : (vs : Values) → items_have_float (printed_values vs) ≡ false
  printed_values_float no_values = refl
  printed_values_float (value v vs) = neither (has_float (printed v)) _ (printed_float v) (printed_values_float vs)

  printed_onto_float : (before : json.Members) (ms : Members) → members_have_float before ≡ false → members_have_float (printed_onto before ms) ≡ false
  printed_onto_float before no_members h = h
  printed_onto_float before (member k v ms) h = printed_onto_float (put k (printed v) before) ms (put_float k (printed v) before (printed_float v) h)

printed_list_float : (vs : List Value) → items_have_float (printed_list vs) ≡ false
printed_list_float [] = refl
printed_list_float (v ∷ vs) = neither (has_float (printed v)) _ (printed_float v) (printed_list_float vs)

printed_fields_float : (fields : Named) → members_have_float (printed_fields fields) ≡ false
printed_fields_float [] = refl
printed_fields_float ((name, vs) ∷ fields) = put_float name (json.array (printed_list vs)) (printed_fields fields) (printed_list_float vs) (printed_fields_float fields)

hit_float : (h : Hit) → has_float (hit_data h) ≡ false
hit_float h = put_float (codes "doc") (printed_named h.1) (json.member (codes "score") (number_data h.0) json.no_members) (printed_fields_float h.1) refl

hits_data_float : (hs : List Hit) → items_have_float (hits_data hs) ≡ false
hits_data_float [] = refl
hits_data_float (h ∷ hs) = neither (has_float (hit_data h)) _ (hit_float h) (hits_data_float hs)

-- the reply of a search has no float
pub hits_float : (hs : List Hit) → has_float (hits_reply hs) ≡ false
hits_float hs = put_float (codes "hits") (json.array (hits_data hs)) json.no_members (hits_data_float hs) refl
