use Rattle.std.proofs.Common.{None, Some, ap, sym, ◌∙◌}
use Rattle.std.specs.Result.{result_err}
use Rattle.query_trees.specs.Queries.{query_of}
use Rattle.query_checks.proofs.NodeFaults.{fails, node_by, passes}
use Rattle.query_checks.proofs.Tests.{err_told}
use Rattle.query_checks.proofs.checks.check_node.Goals as goal

pub returns-in_err-check_own-clause-fault : goal.returns-in_err-check_own-clause-fault
returns-in_err-check_own-clause-fault g c =
    let weight = (g.S.Statistics.similarity c.args.statistics.now).weight in
    let fault = c.in_err-check_own.field-0.0 in
    err_told c.from_residual.result fault c.from_residual.ensures.1
    ∙ node_by c.args.schema.now weight c.args.boost (query_of c.args.query.now) (Some fault) (ap result_err (sym c.in_err-check_own.was) ∙ c.check_own.ensures)

pub returns-in-Some-clause-fault : goal.returns-in-Some-clause-fault
returns-in-Some-clause-fault g c =
    let weight = (g.S.Statistics.similarity c.args.statistics.now).weight in
    let q = query_of c.args.query.now in
    passes _ _ _ (sym c.in-Some.is ∙ c.scored_product.ensures)
    ∙ node_by c.args.schema.now weight c.args.boost q None (ap result_err (sym c.in_ok-check_own.was) ∙ c.check_own.ensures)

pub returns-in-None-clause-fault : goal.returns-in-None-clause-fault
returns-in-None-clause-fault g c =
    let weight = (g.S.Statistics.similarity c.args.statistics.now).weight in
    let q = query_of c.args.query.now in
    fails _ _ (sym c.in-None.is ∙ c.scored_product.ensures)
    ∙ node_by c.args.schema.now weight c.args.boost q None (ap result_err (sym c.in_ok-check_own.was) ∙ c.check_own.ensures)
