-- The kind of a field that is indexed.
use Rattle.std.specs.Prelude.{None, Option, Some, if◌then◌else◌}
use Rattle.definitions.specs.Schema.{Entry, Kind, is_indexed}

abbrev pub indexed_kind : Option Entry → Option Kind
indexed_kind None = None
indexed_kind (Some e) = if is_indexed e then Some e.kind else None
