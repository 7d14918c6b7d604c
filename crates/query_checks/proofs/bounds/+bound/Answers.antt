use Rattle.std.proofs.Common.{ap, rules, sym, w64, ◌*◌, ◌∙◌}
use mir.Val.{SFits}
use Rattle.std.proofs.lemmas.Int.{to_z-of_z}
use Rattle.definitions.specs.Refusing.{bound}
use Rattle.definitions.specs.Scoring.{natural}
use Rattle.query_trees.specs.Queries.{query_of}
use Rattle.query_checks.specs.Ranges.{in_range}
use Rattle.query_checks.proofs.ScaledBounds.{boost_bound}
use Rattle.query_checks.proofs.bounds.+bound.Goals as goal

pub bound-returns-in-Boost : goal.bound-returns-in-Boost
bound-returns-in-Boost g t c =
    let weight = (g.S.Statistics.similarity c.args.statistics.now).weight in
    let fits : SFits w64 c.boost.result = search rules in
    let inner = query_of c.query.result.now in
    c.times.ensures (bound weight 1 inner) c.bound.ensures
    ∙ ap (λ n. in_range (n * bound weight 1 inner)) (c.natural.ensures ∙ ap natural (to_z-of_z w64 c.boost.result fits ∙ c.boost.ensures))
    ∙ ap (λ q. in_range (natural c.in-Boost.query.1 * bound weight 1 q)) c.query.ensures
    ∙ boost_bound weight c.in-Boost.query.1 c.in-Boost.query.0
    ∙ ap (λ q. in_range (bound weight 1 (query_of q))) (sym c.in-Boost.is)
