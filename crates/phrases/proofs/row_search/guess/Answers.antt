use Rattle.std.proofs.Common.{arith, get_or, ◌-◌}
use Rattle.std.proofs.lemmas.List.{length-map}
use Rattle.phrases.specs.Rows.{docs_of}
use Rattle.phrases.proofs.RowLaws.{rises-before}
use Rattle.phrases.proofs.row_search.guess.Goals as goal

pub returns-clause-passed : goal.returns-clause-passed
returns-clause-passed c = λ k l.
    let rows = c.args.rows.now in
    let index = get_or c.args.guesses.now c.min.result 0 in
    let long = length-map rows (λ r. r.doc) in
    let at = c.doc_at-else-index-rows.ensures in
    rises-before (docs_of rows) index (index - 1) k c.args.doc c.requires.rises (omega arith) (omega (arith, long)) (omega (arith, at)) l
