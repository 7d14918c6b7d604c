use Rattle.std.proofs.Common.{None, Some, ap, arith, rules, sym, ◌≡◌, ◌∙◌, length}
use Rattle.codes.proofs.FieldNormSections.{field_ends, ids_absent, indexed_ids}
use Rattle.codes.specs.FieldNormReaders.{ids_from}
use Rattle.layouts.specs.FieldNorms.{ids_of}
use Rattle.codes.proofs.fieldnorm_readers.FieldNormReaders.get_field.Goals as goal

pub returns-in_err-index : goal.returns-in_err-index
returns-in_err-index c =
    let none : c.from_residual.result ≡ None = search rules in
    none ∙ sym (ap (ids_of c.args.field) (sym c.self.view_is) ∙ ids_absent c.args.field c.self.inside.fields.now (ids_from c.self.inside.num_docs c.self.inside.fields.now c.self.inside.bytes.now) c.in_err-index.ensures.none)

pub ids_at-ids-requires : goal.ids_at-ids-requires
ids_at-ids-requires c =
    let ends = field_ends c.self.inside.num_docs c.in_ok-index.index (length c.self.inside.fields.now) c.in_ok-index.ensures.found.0 in
    let long = c.self.invariant.1 in
    omega (arith, ends, long)

pub returns : goal.returns
returns c =
    ap Some c.of_ids.ensures
    ∙ indexed_ids c.self.inside.num_docs c.args.field c.self.inside.fields.now c.self.inside.bytes.now c.in_ok-index.index c.ids_at-ids.result.now c.self.invariant.0 c.in_ok-index.ensures.found.0 c.in_ok-index.ensures.found.1 c.ids_at-ids.ensures
    ∙ ap (ids_of c.args.field) c.self.view_is
