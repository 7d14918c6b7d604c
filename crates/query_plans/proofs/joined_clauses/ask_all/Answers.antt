use Rattle.std.proofs.Common.{[], ap, sym, take, ◌++◌, ◌∙◌, ◌∷◌}
use Rattle.std.proofs.lemmas.List.{take_more}
use Rattle.query_plans.proofs.JoinedClauses.{alike_more}
use Rattle.query_trees.specs.Queries.{occur_of}
use Rattle.query_plans.proofs.joined_clauses.ask_all.Goals as goal

pub loop-asks-preserved : goal.loop-asks-preserved
loop-asks-preserved c =
    let clauses = c.args.clauses.now in
    let clause = c.loop-asks-item.result in
    let more = take_more clauses c.loop-asks.asks-index clause c.loop-asks-test.true ∙ ap (λ d. take c.loop-asks.asks-index clauses ++ d ∷ []) (sym c.loop-asks-item.is) in
    alike_more (occur_of c.args.occur) (take c.loop-asks.asks-index clauses) _ clause more (c.is_same.ensures c.if-not-is_same.false) c.loop-asks.invariant
