use Rattle.std.proofs.Common.{Some, ap, arith, inr, refl, sym, ◌++◌, ◌∙◌}
use Rattle.std.proofs.lemmas.Result.{err_from_is_err_and}
use Rattle.definitions.specs.NumberCodes.{AreBytes}
use Rattle.layouts.specs.DocumentReading.{items_at, take_pair, take_value}
use Rattle.document.proofs.HeldPairs.{empty, not_empty, pairs_held, read_held, read_more, read_none, read_whole}
use Rattle.document.proofs.compact_doc.CompactDoc.deserialize.Goals as goal

pub returns-in_err-skip_pairs-clause-err : goal.returns-in_err-skip_pairs-clause-err
returns-in_err-skip_pairs-clause-err c =
    let p = err_from_is_err_and c.from_residual-in_err-skip_pairs.result c.from_residual-in_err-skip_pairs.ensures.1 in
    rw (p.1, p.2) (inr (c.in_err-skip_pairs.ensures.err.0, read_none c.args.bytes.now c.in_ok-count.pairs.now c.in_ok-count.count c.in_ok-count.ensures.ok c.in_err-skip_pairs.ensures.err.1))

pub returns-then-not-is_empty-clause-err : goal.returns-then-not-is_empty-clause-err
returns-then-not-is_empty-clause-err c = inr (refl, read_more c.args.bytes.now c.in_ok-count.pairs.now c.in_ok-skip_pairs.field-0.now c.in_ok-count.count c.in_ok-count.ensures.ok c.in_ok-skip_pairs.ensures.ok (not_empty c.in_ok-skip_pairs.field-0.now c.if-not-is_empty.ensures))

pub invariant_of-result : goal.invariant_of-result
invariant_of-result c =
    let are : AreBytes c.args.bytes.now = λ i. (let f = (c.type_inv.bytes i).fits in omega (arith, f)) in
    let skipped = c.in_ok-skip_pairs.ensures.ok ∙ ap Some (empty c.in_ok-skip_pairs.field-0.now c.if-not-is_empty.ensures) in
    let same = c.in_ok-extend_from_slice.ensures.items ∙ ap (λ ys. ys ++ c.in_ok-count.pairs.now) c.in_ok-heap.ensures.items in
    (items_at (take_pair take_value) c.in_ok-count.count c.in_ok-count.pairs.now, read_held c.args.bytes.now c.in_ok-count.pairs.now c.extend_from_slice.new.self.items c.in_ok-count.count are c.in_ok-count.ensures.ok skipped same)

pub returns-clause-ok : goal.returns-clause-ok
returns-clause-ok c =
    let are : AreBytes c.args.bytes.now = λ i. (let f = (c.type_inv.bytes i).fits in omega (arith, f)) in
    let skipped = c.in_ok-skip_pairs.ensures.ok ∙ ap Some (empty c.in_ok-skip_pairs.field-0.now c.if-not-is_empty.ensures) in
    let same = c.in_ok-extend_from_slice.ensures.items ∙ ap (λ ys. ys ++ c.in_ok-count.pairs.now) c.in_ok-heap.ensures.items in
    read_whole c.args.bytes.now c.in_ok-count.pairs.now c.in_ok-count.count c.in_ok-count.ensures.ok skipped
    ∙ ap Some (sym (pairs_held c.extend_from_slice.new.self.items c.in_ok-count.count (items_at (take_pair take_value) c.in_ok-count.count c.in_ok-count.pairs.now) (read_held c.args.bytes.now c.in_ok-count.pairs.now c.extend_from_slice.new.self.items c.in_ok-count.count are c.in_ok-count.ensures.ok skipped same)))
