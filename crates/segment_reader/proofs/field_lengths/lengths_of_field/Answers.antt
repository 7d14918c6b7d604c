use Rattle.std.proofs.Common.{None, Some, ap, replicate, subst, sym, ◌∙◌}
use Rattle.definitions.specs.Scoring.{length_id}
use Rattle.layouts.specs.TermPostings.{id_of}
use Rattle.segment_reader.specs.LengthIds.{AreIds}
use Rattle.segment_reader.proofs.FieldLengths.{constant_ids, ids_kept, kept_ids, lent_ids, none_kept, one_for_each}
use Rattle.segment_reader.proofs.field_lengths.lengths_of_field.Goals as goal

pub returns-in-Some-clause-each : goal.returns-in-Some-clause-each
returns-in-Some-clause-each c = one_for_each c.args.reader.now c.args.field c.in-Some.ids (lent_ids c.args.reader.now c.args.field c.field_id.result c.fieldnorms_readers.result (Some c.in-Some.ids) c.in-Some.ensures c.fieldnorms_readers.ensures c.field_id.ensures)

pub returns-in-Some-clause-ids : goal.returns-in-Some-clause-ids
returns-in-Some-clause-ids c schema analyze docs stands = kept_ids schema analyze docs c.args.reader.now c.args.field c.in-Some.ids stands (lent_ids c.args.reader.now c.args.field c.field_id.result c.fieldnorms_readers.result (Some c.in-Some.ids) c.in-Some.ensures c.fieldnorms_readers.ensures c.field_id.ensures)

pub returns-in-None-clause-ids : goal.returns-in-None-clause-ids
returns-in-None-clause-ids c schema analyze docs stands =
    let none = lent_ids c.args.reader.now c.args.field c.field_id.result c.fieldnorms_readers.result None c.in-None.ensures c.fieldnorms_readers.ensures c.field_id.ensures in
    let same = c.constant.ensures ∙ ap (λ n. replicate n 1) c.max_doc.ensures.value in
    subst (AreIds (length_id schema analyze c.args.field) docs) (sym same) (constant_ids schema analyze docs c.args.reader.now c.args.field stands none)

pub returns-in-Some-clause-kept : goal.returns-in-Some-clause-kept
returns-in-Some-clause-kept c doc = ids_kept c.args.reader.now c.args.field c.in-Some.ids doc (lent_ids c.args.reader.now c.args.field c.field_id.result c.fieldnorms_readers.result (Some c.in-Some.ids) c.in-Some.ensures c.fieldnorms_readers.ensures c.field_id.ensures)

pub returns-in-None-clause-kept : goal.returns-in-None-clause-kept
returns-in-None-clause-kept c doc =
    let none = lent_ids c.args.reader.now c.args.field c.field_id.result c.fieldnorms_readers.result None c.in-None.ensures c.fieldnorms_readers.ensures c.field_id.ensures in
    ap (λ ids. id_of ids doc) c.constant.ensures ∙ none_kept c.args.reader.now c.args.field c.max_doc.result doc none
