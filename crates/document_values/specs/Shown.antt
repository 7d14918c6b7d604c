-- The value that a lent one shows.
use Rattle.definitions.specs.Values.{Value, array, bool, bytes, date, facet, i64, ip_addr, null, object, pre_tok_str, str, u64}
use Rattle.layouts.specs.DocumentReading.{steps_in, to_members, to_values}
use Rattle.document_values.specs.declared.compact_value.CompactDocValue.{CompactDocValue}
use Rattle.document_values.specs.declared.compact_value.CompactDocValue.TheVariants.{Array, Bool, Bytes, Date, Facet, I64, IpAddr, Null, Object, PreTokStr, Str, U64}

abbrev pub value_of : CompactDocValue → Value
value_of Null = null
value_of (Str s) = str s.now
value_of (PreTokStr p) = pre_tok_str p.0 p.1
value_of (U64 n) = u64 n
value_of (I64 z) = i64 z
value_of (Bool b) = bool b
value_of (Date z) = date z
value_of (Facet s) = facet (steps_in s.now)
value_of (Bytes bs) = bytes bs.now
value_of (IpAddr a) = ip_addr a
value_of (Array vs) = array (to_values vs)
value_of (Object ms) = object (to_members ms)
