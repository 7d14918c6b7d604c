-- The values so far are those of the entries before.
use Rattle.std.proofs.Common.{◌≡◌, map, take}
use Rattle.definitions.specs.SchemaGrammar.{entry_data}
use Rattle.serde_json.specs.View.{view}
use Rattle.schema.proofs.write_schema.entries_value.Given as goal

abbrev pub invariant-loop-entry : goal.invariant-loop-entry
invariant-loop-entry l = map view l.values.items ≡ map entry_data (take l.entry-index l.entries)
