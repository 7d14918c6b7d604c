-- What is stored of a value is printed as the value.
use Rattle.std.proofs.Common.{ap, ap₂, refl, ◌∙◌, ◌≡◌}
use Rattle.definitions.specs.Printed.{printed, printed_onto, printed_values}
use Rattle.definitions.specs.Stored.{plain, plain_members, plain_values}
use Rattle.definitions.specs.Values.{Members, Value, Values, array, bool, bytes, date, facet, i64, ip_addr, member, no_members, no_values, null, object, pre_tok_str, str, u64, value}
use Rattle.serde_json.specs.Data.{put}
use Rattle.serde_json.specs.Data as json

mutual
  pub printed_plain : (v : Value) → printed (plain v) ≡ printed v
  printed_plain null = refl
  printed_plain (str s) = refl
  printed_plain (pre_tok_str s ts) = refl
  printed_plain (u64 n) = refl
  printed_plain (i64 z) = refl
  printed_plain (bool b) = refl
  printed_plain (date z) = refl
  printed_plain (facet steps) = refl
  printed_plain (bytes bs) = refl
  printed_plain (ip_addr n) = refl
  printed_plain (array vs) = ap json.array (printed_plain_values vs)
  printed_plain (object ms) = ap json.object (printed_plain_members ms json.no_members)

  printed_plain_values : (vs : Values) → printed_values (plain_values vs) ≡ printed_values vs
  printed_plain_values no_values = refl
  printed_plain_values (value v vs) = ap₂ json.item (printed_plain v) (printed_plain_values vs)

  printed_plain_members : (ms : Members) (before : json.Members) → printed_onto before (plain_members ms) ≡ printed_onto before ms
  printed_plain_members no_members before = refl
  printed_plain_members (member k v ms) before = ap (λ d. printed_onto (put k d before) (plain_members ms)) (printed_plain v) ∙ printed_plain_members ms (put k (printed v) before)
