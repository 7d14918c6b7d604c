-- What is left decides.
use Rattle.std.proofs.Common.{[], ◌≡◌, drop}
use Rattle.definitions.specs.SchemaGrammar.{with_entries_in}
use Rattle.serde_json.specs.View.{items_view}
use Rattle.schema.proofs.read_schema.read_entries.Given as goal

abbrev pub invariant-loop-entry : goal.invariant-loop-entry
invariant-loop-entry l = with_entries_in l.schema (items_view (drop l.entry-index l.entries)) ≡ with_entries_in [] (items_view l.entries)
