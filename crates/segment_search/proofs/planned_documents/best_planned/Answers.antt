use Rattle.std.proofs.Common.{ap, ◌∙◌}
use Rattle.query_trees.specs.Queries.{query_of}
use Rattle.segment_search.proofs.PlannedPlaces.{same_places}
use Rattle.segment_search.specs.Best.{best_addresses}
use Rattle.segment_search.specs.Flags.{flagged_each}
use Rattle.segment_search.proofs.planned_documents.best_planned.Goals as goal

pub returns-in-Ok-clause-best : goal.returns-in-Ok-clause-best
returns-in-Ok-clause-best g c analyze docs stands =
    let schema = c.args.schema.now in
    let sim = g.S.Statistics.similarity c.args.statistics.now in
    c.in_ok-found-in-Ok.ensures.best schema analyze docs stands c.in-Ok.ensures.passed
    ∙ ap (best_addresses c.args.limit) (same_places schema analyze sim (query_of c.args.query.now) (query_of c.in_ok-plan.plan) c.in_ok-plan.ensures 0 (flagged_each docs c.args.alive.now))
