use Rattle.std.proofs.Common.{[], ap, arith, sym, take, ◌++◌, ◌∙◌, ◌∷◌}
use Rattle.std.proofs.lemmas.List.{take_more}
use Rattle.query_plans.proofs.RequiredClauses.{next_should, one_should}
use Rattle.query_trees.specs.Queries.{occur_of}
use Rattle.query_plans.proofs.raised_unions.num_should.Goals as goal

pub loop-occur-preserved : goal.loop-occur-preserved
loop-occur-preserved c =
    let clauses = c.args.clauses.now in
    let clause = c.loop-occur-item.result in
    let more = take_more clauses c.loop-occur.occur-index clause c.loop-occur-test.true ∙ ap (λ d. take c.loop-occur.occur-index clauses ++ d ∷ []) (sym c.loop-occur-item.is) in
    let few = c.loop-occur.invariant.1 in
    let one = ap (λ n. n) c.one_if_should-num_should.ensures in
    let most = one_should (occur_of clause.0) in (
      next_should (take c.loop-occur.occur-index clauses) _ clause c.loop-occur.num_should c.one_if_should-num_should.result more c.loop-occur.invariant.0 c.one_if_should-num_should.ensures,
      omega (arith, few, one, most),
    )
