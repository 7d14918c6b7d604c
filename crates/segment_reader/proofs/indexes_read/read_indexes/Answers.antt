use Rattle.std.proofs.Common.{List, arith, map, subst, sym}
use Rattle.std.proofs.lemmas.Result.{err_from_is_err_and}
use Rattle.layouts.specs.InvertedIndexes.{Sections}
use Rattle.segment_reader.proofs.ReadersMade.{checked_for, made_of, no_sections, reader_made, stands_for, told_checking, within_lent}
use Rattle.segment_reader.specs.CheckedTerms.{AreCheckedFields}
use Rattle.segment_reader.specs.declared.field_index.FieldIndex.{FieldIndex}
use Rattle.segment_reader.proofs.indexes_read.read_indexes.Goals as goal

pub returns-in_err-indexes-clause-err : goal.returns-in_err-indexes-clause-err
returns-in_err-indexes-clause-err c =
    let p = err_from_is_err_and c.from_residual-in_err-indexes.result c.from_residual-in_err-indexes.ensures.1 in
    rw (p.1, p.2) (λ other. let refused = c.in_err-indexes.ensures.err other in (refused.0, λ fields are keyed. no_sections c.args.schema.now c.args.num_docs c.args.fieldnorm_readers.now (record { terms = c.args.terms.now; postings = c.args.postings.now; positions = c.args.positions.now }) c.deref.result.now c.in_ok-kinds.kinds.items c.deref.ensures.value c.in_ok-kinds.ensures.kinds c.requires.few (omega arith) (omega arith) (omega arith) refused.1 fields are))

pub invariant_of-sections : goal.invariant_of-sections
invariant_of-sections c = record { bytes = λ i. (let fits = c.type_inv.postings i in omega (arith, fits)) }

pub check_fields-requires-clause-within : goal.check_fields-requires-clause-within
check_fields-requires-clause-within c =
    let read = c.in_ok-indexes.ensures.ok in
    within_lent (record { terms = c.args.terms.now; postings = c.args.postings.now; positions = c.args.positions.now }) c.deref-2.result.now c.in_ok-indexes.indexes.items c.deref-2.ensures.value (told_checking read.0 (record { terms = c.args.terms.now; postings = c.args.postings.now; positions = c.args.positions.now }) _ read.1 c.in_ok-indexes.indexes.items (omega arith) (omega arith) (omega arith) read.2.fields read.3)

pub returns-in_err-check_fields-clause-err : goal.returns-in_err-check_fields-clause-err
returns-in_err-check_fields-clause-err c =
    let p = err_from_is_err_and c.from_residual-in_err-check_fields.result c.from_residual-in_err-check_fields.ensures.1 in
    let read = c.in_ok-indexes.ensures.ok in
    let s : Sections = record { terms = c.args.terms.now; postings = c.args.postings.now; positions = c.args.positions.now } in
    let told = c.in_ok-indexes.indexes.items in
    let made = made_of read.0 c.args.schema.now c.args.num_docs s c.deref.result.now c.in_ok-kinds.kinds.items read.1 told c.deref.ensures.value c.in_ok-kinds.ensures.kinds c.in_ok-kinds.ensures.few c.requires.few (omega arith) (omega arith) (omega arith) read.2 read.3 c.in_ok-indexes.ensures.kinds in
    rw (p.1, p.2) (λ other. let refused = c.in_err-check_fields.ensures.err other in (refused.0, λ fields are keyed. refused.1 _ (subst (λ (is : List FieldIndex). AreCheckedFields s c.args.num_docs c.args.fieldnorm_readers.now is (map (λ f. f.terms) fields)) (sym c.deref-2.ensures.value) (checked_for read.0 c.args.schema.now c.args.num_docs c.args.fieldnorm_readers.now s read.1 told fields made are keyed))))

pub returns-clause-exact : goal.returns-clause-exact
returns-clause-exact c =
    let read = c.in_ok-indexes.ensures.ok in
    let s : Sections = record { terms = c.args.terms.now; postings = c.args.postings.now; positions = c.args.positions.now } in
    let told = c.in_ok-indexes.indexes.items in
    let made = made_of read.0 c.args.schema.now c.args.num_docs s c.deref.result.now c.in_ok-kinds.kinds.items read.1 told c.deref.ensures.value c.in_ok-kinds.ensures.kinds c.in_ok-kinds.ensures.few c.requires.few (omega arith) (omega arith) (omega arith) read.2 read.3 c.in_ok-indexes.ensures.kinds in
    let checked = c.in_ok-check_fields.ensures.ok in
    reader_made read.0 c.args.schema.now c.args.num_docs c.args.fieldnorm_readers.now s read.1 told checked.0 made (subst (λ (is : List FieldIndex). AreCheckedFields s c.args.num_docs c.args.fieldnorm_readers.now is checked.0) c.deref-2.ensures.value checked.1)

pub returns-clause-ok : goal.returns-clause-ok
returns-clause-ok c =
    let read = c.in_ok-indexes.ensures.ok in
    let s : Sections = record { terms = c.args.terms.now; postings = c.args.postings.now; positions = c.args.positions.now } in
    let told = c.in_ok-indexes.indexes.items in
    let made = made_of read.0 c.args.schema.now c.args.num_docs s c.deref.result.now c.in_ok-kinds.kinds.items read.1 told c.deref.ensures.value c.in_ok-kinds.ensures.kinds c.in_ok-kinds.ensures.few c.requires.few (omega arith) (omega arith) (omega arith) read.2 read.3 c.in_ok-indexes.ensures.kinds in
    λ fields are. stands_for read.0 c.args.schema.now c.args.num_docs c.args.fieldnorm_readers.now s read.1 told fields made are
