use Rattle.std.proofs.Common.{[], ap, arith, subst, sym}
use Rattle.std.proofs.lemmas.Option.{slice_get_past}
use Rattle.std.specs.Option.{option_map_or}
use Rattle.definitions.specs.Schema.{is_indexed}
use Rattle.document_values.specs.Shown.{value_of}
use Rattle.document_indexer.specs.Contexts.{Records}
use Rattle.document_indexer.specs.Steps.{entry_steps}
use Rattle.document_indexer.proofs.CountedLengths.{field_within}
use Rattle.document_indexer.proofs.Recording.{records_none}
use Rattle.document_indexer.proofs.index_document.index_field_value.Goals as goal

pub returns-then-field_id-num_fields-clause-ok : goal.returns-then-field_id-num_fields-clause-ok
returns-then-field_id-num_fields-clause-ok g c =
    let schema = c.args.schema.now in
    let past = slice_get_past schema c.args.field (omega (arith, c.field_id.ensures, c.num_fields.ensures.value, c.if-field_id-num_fields.true)) in
    subst (Records schema c.args.indexer.now c.args.indexer.now) (ap (λ o. option_map_or (λ e. entry_steps (g.A.Analyzer.analyze c.args.analyzer.now) c.args.field e (value_of c.args.value)) o []) (sym past)) (records_none schema c.args.indexer.now c.requires)

pub returns-then-field_id-num_fields-clause-len : goal.returns-then-field_id-num_fields-clause-len
returns-then-field_id-num_fields-clause-len g c indexed = absurd (let within = field_within c.args.schema.now is_indexed c.args.field indexed in omega (arith, c.field_id.ensures, c.num_fields.ensures.value, c.if-field_id-num_fields.true))
