-- Fields with the options of their types, and names of their own, are read back.
use Rattle.std.proofs.Common.{Ok, subst, ◌≡◌}
use Rattle.definitions.specs.SchemaGrammar.{schema_data, schema_in}
use Rattle.schema.proofs.ReadBack.{numbered_back}
use Rattle.schema.proofs.schema.Schema.entries.Goals as goal

pub returns-clause-read_back : goal.returns-clause-read_back
returns-clause-read_back c = subst (λ fields. schema_in (schema_data fields) ≡ Ok fields) c.self.view_is (numbered_back c.self.inside.numbers c.self.inside.fields.items c.self.invariant)
