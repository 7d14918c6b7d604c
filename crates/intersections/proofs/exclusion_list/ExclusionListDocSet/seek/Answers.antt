use Rattle.intersections.specs.Differences.{unscored}
use Rattle.intersections.proofs.exclusion_list.ExclusionListDocSet.seek.Goals as goal

pub returns : goal.returns
returns g c = record { rest = c.seek_any-self.ensures.rest unscored; at = c.seek_any-self.ensures.at unscored }
