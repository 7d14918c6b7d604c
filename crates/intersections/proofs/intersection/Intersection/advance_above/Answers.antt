use Rattle.std.proofs.Common.{ap, arith, map, subst, sym, ◌+◌, ◌<◌, ◌∙◌}
use Rattle.std.specs.Prelude.{pos, ◌≤ℤ◌}
use Rattle.std.specs.List.{AllByRecursion}
use Rattle.docsets.specs.Entries.{from}
use Rattle.docsets.proofs.EntryLaws.{drop-one, from-from}
use Rattle.intersections.proofs.MeetingLaws.{meets-on}
use Rattle.intersections.proofs.ThresholdLaws.{low_behind}
use Rattle.intersections.specs.Meetings.{meeting}
use Rattle.intersections.proofs.intersection.Intersection.advance_above.Goals as goal

pub invariant_of-self : goal.invariant_of-self
invariant_of-self g c =
    let s = c.args.self.now in
    let entries = g.S.DocSet.entries in
    let next = c.next_above-self in
    let long = next.ensures.long in
    let leading = s.leading in
    record {
      leading = omega (arith, long, leading);
      meets = meets-on next.result next.result (map entries s.docsets.items) (map entries next.new.docsets.items) s.meets.rises next.ensures.same next.ensures.at next.ensures.leads;
    }

pub returns-clause-rest : goal.returns-clause-rest
returns-clause-rest g c =
    let s = c.args.self.now in
    let all = meeting (map g.S.DocSet.entries s.docsets.items) in
    let next = c.next_above-self in
    next.ensures.same ∙ (sym (from-from (s.doc + 1) next.result all next.ensures.up) ∙ ap (from next.result) (ap (λ n. from (n + 1) all) s.meets.at ∙ sym (drop-one 0 all s.meets.rises)))

pub returns-clause-low : goal.returns-clause-low
returns-clause-low g c =
    let s = c.args.self.now in
    let all = meeting (map g.S.DocSet.entries s.docsets.items) in
    let next = c.next_above-self in
    subst (AllByRecursion (λ e. e.doc < next.result → pos (g.C.ColumnThreshold.score c.args.threshold.now e.doc e.positions) ≤ℤ g.C.ColumnThreshold.limit c.args.threshold.now)) (ap (λ n. from (n + 1) all) s.meets.at ∙ sym (drop-one 0 all s.meets.rises))
    (low_behind (g.C.ColumnThreshold.score c.args.threshold.now) (g.C.ColumnThreshold.limit c.args.threshold.now) (s.doc + 1) next.result 0 all s.meets.rises next.ensures.low)

pub returns-clause-up : goal.returns-clause-up
returns-clause-up g c = λ on. (let at = c.args.self.now.meets.at in let up = c.next_above-self.ensures.up in omega (arith, at, up))
