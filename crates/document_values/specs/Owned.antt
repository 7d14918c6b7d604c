-- The value that an owned one is.
use Rattle.std.specs.Prelude.{List, String, map, string_bytes, ℕ}
use Rattle.std.specs.declared.alloc.Global.{Global}
use Rattle.definitions.specs.Values.{Value, array, bool, bytes, date, facet, i64, ip_addr, null, object, pre_tok_str, str, u64}
use Rattle.layouts.specs.DocumentReading.{to_members, to_values}
use Rattle.document_values.specs.declared.owned_value.OwnedValue.{OwnedValue, fold-OwnedValue}
use Rattle.document_values.specs.declared.owned_value.OwnedValue.TheOpen.{OwnedValue-F}

-- values with the bytes of their keys
abbrev pub keyed : List (String Global × Value) → List (List ℕ × Value)
keyed ms = map (λ m. (string_bytes m.0, m.1)) ms

-- one level, with each value inside already seen as it is
abbrev pub owned_step : OwnedValue-F Value → Value
owned_step OwnedValue-F.Null = null
owned_step (OwnedValue-F.Str s) = str (string_bytes s)
owned_step (OwnedValue-F.PreTokStr p) = pre_tok_str p.0 p.1
owned_step (OwnedValue-F.U64 n) = u64 n
owned_step (OwnedValue-F.I64 z) = i64 z
owned_step (OwnedValue-F.Bool b) = bool b
owned_step (OwnedValue-F.Date z) = date z
owned_step (OwnedValue-F.Facet steps) = facet steps
owned_step (OwnedValue-F.Bytes bs) = bytes bs.items
owned_step (OwnedValue-F.IpAddr n) = ip_addr n
owned_step (OwnedValue-F.Array vs) = array (to_values vs.items)
owned_step (OwnedValue-F.Object ms) = object (to_members (keyed ms.items))

abbrev pub owned_value : OwnedValue → Value
owned_value = fold-OwnedValue Value owned_step

abbrev pub owned_values : List OwnedValue → List Value
owned_values vs = map owned_value vs

abbrev pub owned_members : List (String Global × OwnedValue) → List (List ℕ × Value)
owned_members ms = keyed (map (λ m. (m.0, owned_value m.1)) ms)
