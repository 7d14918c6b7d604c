use Rattle.definitions.specs.Scoring.{natural}
use Rattle.intersections.proofs.DifferenceLaws.{covers_without}
use Rattle.intersections.proofs.exclude.ExcludeScorer.window.Goals as goal

pub returns-clause-covers : goal.returns-clause-covers
returns-clause-covers g c =
    let s = c.args.self.now in
    covers_without (g.E.ExclusionSet.excludes s.exclusion) c.args.target c.window.result.until (natural c.window.result.bound) (g.S.DocSet.entries s.underlying) c.window.ensures.covers
