-- The indexed fields of a schema, one after another.
use Rattle.std.proofs.Common.{List, filter, map, ℕ}
use Rattle.definitions.specs.Schema.{Entry, IndexRecordOption, Kind, is_indexed}

-- a field as it is shown
abbrev pub kind_shown : ℕ × Entry → ℕ × Kind × IndexRecordOption
kind_shown p = (p.0, p.1.kind, p.1.record_option)

-- the indexed ones of fields, as they are shown
abbrev pub kinds_left : List (ℕ × Entry) → List (ℕ × Kind × IndexRecordOption)
kinds_left ps = map kind_shown (filter (λ p. is_indexed p.1) ps)
