use Rattle.std.proofs.Common.{List, ap, arith, length, map, refl, subst, sym, ◌≡◌, ◌≤◌, ◌∙◌, ℕ}
use Rattle.std.specs.List.{AllByRecursion}
use Rattle.std.specs.Prelude.{slice_index_or}
use Rattle.codes.specs.FieldNorms.{with_length}
use Rattle.document_indexer.proofs.KeptLengths.{all_more, field_more, field_once, none_more, part}
use Rattle.document_indexer.proofs.field_lengths.record_lengths.Goals as goal

pub loop-field-init : goal.loop-field-init
loop-field-init c = sym (none_more c.args.lengths.now c.args.norms.now)

pub record-requires : goal.record-requires
record-requires c =
    let lengths = c.args.lengths.now in
    let field = c.loop-field.field in
    record { once = subst (AllByRecursion (λ (p : ℕ × List ℕ). p.0 ≡ field → length p.1 ≤ c.args.doc)) (sym c.loop-field.invariant) (field_once lengths (length lengths) c.args.doc field c.args.norms.now c.requires.kept) }

pub loop-field-preserved : goal.loop-field-preserved
loop-field-preserved c =
    let lengths = c.args.lengths.now in
    let field = c.loop-field.field in
    let len = slice_index_or lengths field 0 in
    c.in_ok-record.ensures.ok ∙ ap (with_length c.args.doc field len) c.loop-field.invariant ∙ field_more lengths (length lengths) c.args.doc field len c.args.norms.now c.requires.kept refl

pub returns : goal.returns
returns c =
    let lengths = c.args.lengths.now in
    let all : c.loop-field.field ≡ length lengths = (let done = c.loop-field-test.false in let end = c.loop-field.auto.field-end in omega arith) in
    c.loop-field.invariant ∙ ap (λ k. map (part lengths k) c.args.norms.now) all ∙ all_more lengths (length lengths) c.args.doc c.args.norms.now c.requires.kept
