-- Leaves as the definitions have them.
use Rattle.std.specs.Prelude.{string_bytes}
use Rattle.definitions.specs.Values.{Value, bool, bytes, date, facet, i64, ip_addr, str, u64}
use Rattle.values_json.specs.declared.leaf.Leaf.{Leaf}
use Rattle.values_json.specs.declared.leaf.Leaf.TheVariants.{Bool, Bytes, Date, Facet, I64, IpAddr, Str, U64}

-- the value that a leaf is
abbrev pub value_of : Leaf → Value
value_of (Str s) = str (string_bytes s)
value_of (U64 n) = u64 n
value_of (I64 z) = i64 z
value_of (Bool b) = bool b
value_of (Date z) = date z
value_of (Facet steps) = facet steps
value_of (Bytes v) = bytes v.items
value_of (IpAddr n) = ip_addr n
