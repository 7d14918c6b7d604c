use Rattle.std.proofs.Common.{sym, ◌∙◌}
use Rattle.intersections.specs.Differences.{unscored}
use Rattle.docsets.proofs.AtLeastLaws.{union-first}
use Rattle.intersections.proofs.exclusion_list.ExclusionListDocSet.doc.Goals as goal

pub returns : goal.returns
returns g c = c.args.self.now.leads ∙ sym (union-first g.D.DocSet.entries g.met.D.DocSet.rising unscored c.args.self.now.docsets.items)
