use Rattle.std.proofs.Common.{ap, map, ◌∙◌}
use Rattle.intersections.specs.Differences.{has, unscored}
use Rattle.intersections.proofs.ExclusionLaws.{has-one}
use Rattle.docsets.proofs.MemberLaws.{from-zero}
use Rattle.docsets.specs.Members.{at_least}
use Rattle.intersections.proofs.exclusion_list.ExclusionList.new.Goals as goal

pub returns-clause-entries : goal.returns-clause-entries
returns-clause-entries g c = c.seek_any-doc.ensures.rest unscored ∙ from-zero (at_least 1 unscored (map g.D.DocSet.entries c.args.docsets.items))

pub returns-clause-excludes : goal.returns-clause-excludes
returns-clause-excludes g c =
    let ess = map g.D.DocSet.entries c.args.docsets.items in
    λ d l. ap (λ es. has es d) (c.seek_any-doc.ensures.rest unscored ∙ from-zero (at_least 1 unscored ess)) ∙ has-one ess d l
