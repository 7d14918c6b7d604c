use Rattle.intersections.specs.Differences.{unscored}
use Rattle.intersections.proofs.exclusion_list.ExclusionListDocSet.advance.Goals as goal

pub returns : goal.returns
returns g c = record { rest = c.advance_any-self.ensures.rest unscored; at = c.advance_any-self.ensures.at unscored }
