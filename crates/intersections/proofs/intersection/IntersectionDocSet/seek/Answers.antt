use Rattle.std.proofs.Common.{arith, map}
use Rattle.intersections.proofs.MeetingLaws.{meets-on}
use Rattle.intersections.proofs.intersection.IntersectionDocSet.seek.Goals as goal

pub invariant_of-self : goal.invariant_of-self
invariant_of-self g c =
    let s = c.args.self.now in
    let entries = g.S.DocSet.entries in
    let next = c.next_match-self in
    let long = next.ensures.long in
    let leading = s.leading in
    record {
      leading = omega (arith, long, leading);
      meets = meets-on c.args.target next.result (map entries s.docsets.items) (map entries next.new.docsets.items) s.meets.rises next.ensures.same next.ensures.at next.ensures.leads;
    }
