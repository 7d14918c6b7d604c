-- What is told of the field's type is what the field records.
use Rattle.std.proofs.Common.{ap, ◌∙◌}
use Rattle.schema.proofs.Positions.{by_field, in_told}
use Rattle.schema.proofs.field_entry.FieldEntry.records_positions.Goals as goal

pub returns-in-Some : goal.returns-in-Some
returns-in-Some c = c.has_positions.ensures ∙ ap in_told c.in-Some.ensures ∙ by_field c.args.self.now c.field_type.result.now c.field_type.ensures

pub returns-in-None : goal.returns-in-None
returns-in-None c = ap in_told c.in-None.ensures ∙ by_field c.args.self.now c.field_type.result.now c.field_type.ensures
