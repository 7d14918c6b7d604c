use Rattle.std.proofs.Common.{ap, arith, map, sym, ◌+◌, ◌∙◌}
use Rattle.docsets.specs.Entries.{from}
use Rattle.docsets.proofs.EntryLaws.{drop-one}
use Rattle.intersections.proofs.MeetingLaws.{meets-on}
use Rattle.intersections.specs.Meetings.{meeting}
use Rattle.intersections.proofs.intersection.IntersectionDocSet.advance.Goals as goal

pub invariant_of-self : goal.invariant_of-self
invariant_of-self g c =
    let s = c.args.self.now in
    let entries = g.S.DocSet.entries in
    let next = c.next_match-self in
    let long = next.ensures.long in
    let leading = s.leading in
    record {
      leading = omega (arith, long, leading);
      meets = meets-on (s.doc + 1) next.result (map entries s.docsets.items) (map entries next.new.docsets.items) s.meets.rises next.ensures.same next.ensures.at next.ensures.leads;
    }

pub returns-clause-rest : goal.returns-clause-rest
returns-clause-rest g c =
    let s = c.args.self.now in
    let ess = map g.S.DocSet.entries s.docsets.items in
    c.next_match-self.ensures.same ∙ (ap (λ n. from (n + 1) (meeting ess)) s.meets.at ∙ sym (drop-one 0 (meeting ess) s.meets.rises))
