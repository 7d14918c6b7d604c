-- The field of a member's name is one of the schema's.
use Rattle.std.proofs.Common.{refl}
use Rattle.definitions.proofs.Bounds.{named_within}
use Rattle.serde_json.specs.View.{view}
use Rattle.document.proofs.ReadingSteps.{member_of_field}
use Rattle.document.proofs.json_reader.read_member.Goals as goal

pub get_field_entry-requires : goal.get_field_entry-requires
get_field_entry-requires c = named_within c.args.schema.now c.in-Ok.field c.args.key.now ((c.in-Ok.ensures.exact c.in-Ok.field).0 refl)

pub returns-in-Ok-clause-ok : goal.returns-in-Ok-clause-ok
returns-in-Ok-clause-ok c =
    let same = member_of_field c.args.schema.now c.args.key.now (view c.args.json.now) c.in-Ok.field c.get_field_entry.result.now c.in-Ok.ensures.value c.get_field_entry.ensures in
    rw same c.read_field.ensures.ok

pub returns-in-Ok-clause-err : goal.returns-in-Ok-clause-err
returns-in-Ok-clause-err c =
    let same = member_of_field c.args.schema.now c.args.key.now (view c.args.json.now) c.in-Ok.field c.get_field_entry.result.now c.in-Ok.ensures.value c.get_field_entry.ensures in
    rw same c.read_field.ensures.err
