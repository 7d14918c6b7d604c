-- Stored values as JSON.
use Rattle.std.specs.Prelude.{[], ◌∷◌, List, negsuc, pos, ℤ}
use Rattle.definitions.specs.Addresses.{address_text}
use Rattle.definitions.specs.Dates.{date_text}
use Rattle.definitions.specs.Facets.{path_of}
use Rattle.definitions.specs.Stored.{Named}
use Rattle.definitions.specs.Values.{Members, Value, Values, array, bool, bytes, date, facet, i64, ip_addr, member, no_members, no_values, null, object, pre_tok_str, str, u64, value}
use Rattle.serde_json.specs.Data.{put}
use Rattle.base64.specs.GeneralPurpose.{encode_of}
use Rattle.base64.specs.Engines.{standard}
use Rattle.serde_json.specs.Data as json

-- a whole number as JSON
abbrev pub int_json : ℤ → json.Num
int_json (pos n) = json.unsigned n
int_json (negsuc n) = json.negative (negsuc n)

-- Bytes are base64, facets paths, pre-tokenised texts their text. The members of an object stand in the
-- order of their keys' bytes; of equal keys the last stands.
abbrev mutual
  pub printed : Value → json.Data
  printed null = json.null
  printed (str s) = json.string s
  printed (pre_tok_str s ts) = json.string s
  printed (u64 n) = json.number (json.unsigned n)
  printed (i64 z) = json.number (int_json z)
  printed (bool b) = json.boolean b
  printed (date nanos) = json.string (date_text nanos)
  printed (facet steps) = json.string (path_of steps)
  printed (bytes bs) = json.string (encode_of standard bs)
  printed (ip_addr n) = json.string (address_text n)
  printed (array vs) = json.array (printed_values vs)
  printed (object ms) = json.object (printed_onto json.no_members ms)

  pub printed_values : Values → json.Items
  printed_values no_values = json.no_items
  printed_values (value v vs) = json.item (printed v) (printed_values vs)

  pub printed_onto : json.Members → Members → json.Members
  printed_onto before no_members = before
  printed_onto before (member k v ms) = printed_onto (put k (printed v) before) ms

abbrev pub printed_list : List Value → json.Items
printed_list [] = json.no_items
printed_list (v ∷ vs) = json.item (printed v) (printed_list vs)

-- the fields with their lists of values, in the order of their names' bytes
abbrev pub printed_fields : Named → json.Members
printed_fields [] = json.no_members
printed_fields ((name, vs) ∷ fields) = put name (json.array (printed_list vs)) (printed_fields fields)

-- one object, field names as keys
abbrev pub printed_named : Named → json.Data
printed_named fields = json.object (printed_fields fields)
