-- The field that is named is one of the schema's.
use Rattle.std.proofs.Common.{refl}
use Rattle.definitions.proofs.Bounds.{named_within}
use Rattle.query_text.proofs.vocabulary.path_query.Goals as goal

pub get_field_entry-requires : goal.get_field_entry-requires
get_field_entry-requires g c = named_within c.args.schema.now c.in-Ok.field c.in-Some.name.now ((c.in-Ok.ensures.exact c.in-Ok.field).0 refl)
