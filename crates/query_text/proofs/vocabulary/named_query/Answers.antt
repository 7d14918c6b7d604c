-- The field that is named is one of the schema's.
use Rattle.std.proofs.Common.{refl, subst, sym, ◌∙◌}
use Rattle.definitions.proofs.Bounds.{named_within}
use Rattle.definitions.specs.declared.fault.Fault.TheVariants as faults
use Rattle.query_text.specs.Clauses.{phrase_of}
use Rattle.query_text.specs.Refusals.{Gives}
use Rattle.query_text.specs.Answers as definitions
use Rattle.query_trees.specs.Queries.{query_of}
use Rattle.terms.specs.Kinds.{kind_of}
use Rattle.query_text.proofs.NamedFields.{of_value, without_texts}
use Rattle.query_text.proofs.vocabulary.named_query.Goals as goal

pub get_field_entry-entry-requires : goal.get_field_entry-entry-requires
get_field_entry-entry-requires g c = named_within c.args.schema.now c.in-Ok.field c.args.name.now ((c.in-Ok.ensures.exact c.in-Ok.field).0 refl)

pub returns : goal.returns
returns g c =
    let e = c.get_field_entry-entry.result.now in
    let plain = without_texts e c.field_type.result.now c.field_type.ensures (sym c.is_str.ensures ∙ c.if-is_str.false) in
    let same = of_value c.args.schema.now (g.A.Analyzer.analyze c.args.analyzer.now) c.args.name.now (phrase_of c.args.phrase) c.in-Ok.field e (kind_of c.value_type.result) faults.FieldNotFound c.in-Ok.ensures.value c.get_field_entry-entry.ensures plain c.value_type.ensures in
    let told = subst (λ text. Gives query_of c.value_query.result (definitions.value_query c.in-Ok.field (kind_of c.value_type.result) text c.args.phrase.is_prefix)) c.requires c.value_query.ensures in
    subst (λ read. Gives query_of c.value_query.result read) (sym same) told
