use Rattle.std.proofs.Common.{arith, ◌+◌, ◌-◌, ◌≡◌, ℕ}
use Rattle.std.proofs.lemmas.List.{length-map}
use Rattle.phrases.specs.Rows.{docs_of}
use Rattle.phrases.proofs.RowLaws.{rises-before}
use Rattle.phrases.proofs.row_search.pass_rows.Goals.{else-step-rows, then-step-rows+then-doc_at-doc}
use Rattle.phrases.proofs.row_search.pass_rows.Goals as goal

pub loop-step-preserved : goal.loop-step-preserved
loop-step-preserved c =
    let rows = c.args.rows.now in
    let next : ℕ = c.loop-step.index + c.loop-step.step in
    let long = length-map rows (λ r. r.doc) in
    let within = c.loop-step.invariant.within in
    let some = c.loop-step-test.true in
    elim c.if-step-rows.branch [
      | then-step-rows+then-doc_at-doc w ↦ (let is : c.if-step-rows.index ≡ next = w.index-is in
          let room = w.if-step-rows.true in
          let at = w.doc_at.ensures in
          let early = w.if-doc_at-doc.true in
          record {
            within = omega (arith, is, room, within);
            passed = λ k l. rises-before (docs_of rows) next (next - 1) k c.args.doc c.requires.rises (omega arith) (omega (arith, long, room, within, some)) (omega (arith, at, early)) (omega (arith, l, is));
          })
      | else-step-rows w ↦ (let is = w.index-is in record { within = omega (arith, is, within); passed = λ k l. c.loop-step.invariant.passed k (omega (arith, l, is)) })
    ]
