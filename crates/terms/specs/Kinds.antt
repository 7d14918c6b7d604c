-- Types of fields as the kinds of the definitions.
use Rattle.definitions.specs.Schema.{Kind, text_kind, u64_kind, i64_kind, bool_kind, date_kind, facet_kind, bytes_kind, json_kind, ip_addr_kind}
use Rattle.terms.specs.declared.field_type.«Type».{«Type»}
use Rattle.terms.specs.declared.field_type.«Type».TheVariants.{Str, U64, I64, Bool, Date, Facet, Bytes, Json, IpAddr}

abbrev pub kind_of : «Type» → Kind
kind_of Str = text_kind
kind_of U64 = u64_kind
kind_of I64 = i64_kind
kind_of Bool = bool_kind
kind_of Date = date_kind
kind_of Facet = facet_kind
kind_of Bytes = bytes_kind
kind_of Json = json_kind
kind_of IpAddr = ip_addr_kind
