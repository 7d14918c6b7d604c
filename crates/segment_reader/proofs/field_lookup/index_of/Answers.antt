use Rattle.std.proofs.Common.{Bor, ap, option_map, ◌∙◌}
use Rattle.segment_reader.proofs.NumbersFound.{none_past, none_there, one_there}
use Rattle.segment_reader.specs.declared.field_index.FieldIndex.{FieldIndex}
use Rattle.segment_reader.proofs.field_lookup.index_of.Goals as goal

pub returns-in_err-index : goal.returns-in_err-index
returns-in_err-index c = ap (option_map (λ (i : Bor FieldIndex). i.now)) c.from_residual.ensures ∙ none_past c.args.field c.args.indexes.now c.first_from.result c.first_from.ensures c.in_err-index.ensures.lookup.3

pub returns-then-index-field : goal.returns-then-index-field
returns-then-index-field c = none_there c.args.field c.args.indexes.now c.first_from.result c.in_ok-index.index.now c.requires c.first_from.ensures c.in_ok-index.ensures.lookup.3.0 c.in_ok-index.ensures.lookup.1 c.if-index-field.true

pub returns : goal.returns
returns c = one_there c.args.field c.args.indexes.now c.first_from.result c.in_ok-index.index.now c.requires c.in_ok-index.ensures.lookup.3.0 c.in_ok-index.ensures.lookup.1 c.if-index-field.false
