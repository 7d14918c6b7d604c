-- Whether a field records positions, by its type.
use Rattle.std.proofs.Common.{[], Bool, List, None, Option, Some, ap, false, if◌then◌else◌, is_some, refl, true, ◌∙◌, ◌≡◌, ℕ}
use Rattle.std.specs.Option.{option_map_or}
use Rattle.definitions.specs.Schema.{Entry, IndexRecordOption, basic, has_positions, is_indexed}
use Rattle.options.specs.Options.{Indexing}
use Rattle.schema.specs.Entries.{entry_of}
use Rattle.schema.specs.declared.field_entry.FieldType.{FieldType}
use Rattle.schema.specs.declared.field_entry.FieldType.TheVariants as types

-- whether positions are recorded, where it is told what is recorded
abbrev pub in_told : Option IndexRecordOption → Bool
in_told o = option_map_or has_positions o false

-- what is told of a type
abbrev pub told_of : FieldType → Option IndexRecordOption
told_of t = if is_indexed (entry_of [] t) then Some (entry_of [] t).record_option else None

-- texts, as their indexing says
by_indexing : (i : Option Indexing) → in_told (if is_some i then Some (option_map_or (λ x. x.record_option) i basic) else None) ≡ has_positions (option_map_or (λ x. x.record_option) i basic)
by_indexing None = refl
by_indexing (Some x) = refl

-- values that are indexed or not
of_values : (b : Bool) → in_told (if b then Some basic else None) ≡ false
of_values true = refl
of_values false = refl

by_type : (name : List ℕ) (t : FieldType) → in_told (told_of t) ≡ has_positions (entry_of name t).record_option
by_type name (types.Str o) = by_indexing o.indexing
by_type name (types.JsonObject o) = by_indexing o.indexing
by_type name (types.U64 o) = of_values o.indexed
by_type name (types.I64 o) = of_values o.indexed
by_type name (types.Bool o) = of_values o.indexed
by_type name (types.Date o) = of_values o.indexed
by_type name (types.Facet o) = refl
by_type name (types.Bytes o) = of_values o.indexed
by_type name (types.IpAddr o) = of_values o.indexed

-- a field records positions where it is told so of its type
pub by_field : (e : Entry) (t : FieldType) → entry_of e.name t ≡ e → in_told (told_of t) ≡ has_positions e.record_option
by_field e t typed = by_type e.name t ∙ ap (λ (d : Entry). has_positions d.record_option) typed
