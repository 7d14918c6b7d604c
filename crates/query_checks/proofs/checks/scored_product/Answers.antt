use Rattle.std.proofs.Common.{sym, ◌∙◌}
use Rattle.definitions.specs.Refusing.{bound}
use Rattle.query_trees.specs.Queries.{query_of}
use Rattle.query_checks.proofs.NodeFaults.{kept, lost}
use Rattle.query_checks.proofs.ScaledBounds.{boosted}
use Rattle.query_checks.proofs.checks.scored_product.Goals as goal

pub returns-in_err-times : goal.returns-in_err-times
returns-in_err-times g c =
    let weight = (g.S.Statistics.similarity c.args.statistics.now).weight in
    let q = query_of c.args.query.now in
    c.from_residual-in_err-times.ensures
    ∙ lost _ _ _ _ _ (sym c.in_ok-product.was ∙ c.product.ensures) (sym c.in_err-times.was ∙ c.times.ensures (bound weight 1 q) c.bound.ensures ∙ boosted weight c.args.boost q)

pub returns : goal.returns
returns g c =
    let weight = (g.S.Statistics.similarity c.args.statistics.now).weight in
    let q = query_of c.args.query.now in
    kept _ _ _ _ _ _ (sym c.in_ok-product.was ∙ c.product.ensures) (sym c.in_ok-times.was ∙ c.times.ensures (bound weight 1 q) c.bound.ensures ∙ boosted weight c.args.boost q)
