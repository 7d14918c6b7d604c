use Rattle.std.proofs.Common.{arith, map, ◌∙◌}
use Rattle.intersections.proofs.MeetingLaws.{Rising-meeting, meets-on}
use Rattle.intersections.specs.Meetings.{meeting}
use Rattle.docsets.proofs.MemberLaws.{from-zero}
use Rattle.intersections.proofs.intersection.Intersection.new.Goals as goal

pub invariant_of-result : goal.invariant_of-result
invariant_of-result g c =
    let entries = g.S.DocSet.entries in
    let items = c.args.docsets.items in
    let next = c.next_match-doc in
    let long = next.ensures.long in
    let index = c.cheapest-lead.ensures in
    record {
      leading = omega (arith, long, index);
      meets = meets-on 0 next.result (map entries items) (map entries next.new.docsets.items) (Rising-meeting entries g.met.S.DocSet.rising items c.requires.fits) next.ensures.same next.ensures.at next.ensures.leads;
    }

pub returns : goal.returns
returns g c = c.next_match-doc.ensures.same ∙ from-zero (meeting (map g.S.DocSet.entries c.args.docsets.items))
