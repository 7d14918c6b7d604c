-- What indexed fields hold, and what is recorded of their terms.
use Rattle.std.specs.Prelude.{List, filter, if◌then◌else◌, map, ℕ}
use Rattle.std.specs.List.{enumerate_from}
use Rattle.definitions.specs.Schema.{IndexRecordOption, Kind, Schema, basic, is_indexed}
use Rattle.options.specs.RecordOption.{record_option_of}
use Rattle.terms.specs.Kinds.{kind_of}
use Rattle.terms.specs.TextKeys.{is_text_key}
use Rattle.segment_reader.specs.declared.field_kind.FieldKind.{FieldKind}

-- a field by its number, the kind of its values, and what is recorded of its texts
abbrev pub shown : FieldKind → ℕ × Kind × IndexRecordOption
shown k = (k.field, kind_of k.value_type, record_option_of k.record_option)

-- the indexed fields of a schema
abbrev pub kinds_of : Schema → List (ℕ × Kind × IndexRecordOption)
kinds_of schema = map (λ p. (p.0, p.1.kind, p.1.record_option)) (filter (λ p. is_indexed p.1) (enumerate_from 0 schema))

-- what is recorded of a term of the field, by its value bytes
abbrev pub option_in : FieldKind → List ℕ → IndexRecordOption
option_in k key = if is_text_key (kind_of k.value_type) key then record_option_of k.record_option else basic
