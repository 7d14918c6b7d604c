-- The field that is named is one of the schema's.
use Rattle.std.proofs.Common.{refl}
use Rattle.definitions.proofs.Bounds.{named_within}
use Rattle.ask.proofs.passages.snippet_in.Goals as goal

pub get_field_entry-entry-requires : goal.get_field_entry-entry-requires
get_field_entry-entry-requires c = named_within c.args.schema.now c.in-Ok.field c.args.name.now ((c.in-Ok.ensures.exact c.in-Ok.field).0 refl)
