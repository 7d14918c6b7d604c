use Rattle.std.proofs.Common.{ap, sym, ◌∙◌}
use Rattle.intersections.proofs.DifferenceLaws.{from-without}
use Rattle.intersections.specs.Differences.{without}
use Rattle.intersections.proofs.exclude.ExcludeDocSet.seek.Goals as goal

pub returns-clause-rest : goal.returns-clause-rest
returns-clause-rest g c =
    let excludes = g.E.ExclusionSet.excludes c.args.self.now.exclusion in
    c.skip_excluded.ensures.same ∙ (ap (without excludes) c.seek.ensures.rest ∙ sym (from-without excludes c.args.target (g.D.DocSet.entries c.args.self.now.underlying)))
