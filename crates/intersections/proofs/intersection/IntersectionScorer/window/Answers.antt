use Rattle.std.proofs.Common.{List, ap, arith, length, map, subst, sym}
use Rattle.std.proofs.lemmas.List.{length-map}
use Rattle.docsets.specs.Entries.{Entry}
use Rattle.docsets.specs.Members.{enough, entries_at, joining}
use Rattle.definitions.specs.Scoring.{natural}
use Rattle.intersections.proofs.BoundLaws.{covers_listed}
use Rattle.intersections.specs.Meetings.{IsMeeting, meeting}
use Rattle.intersections.proofs.intersection.IntersectionScorer.window.Goals as goal

pub invariant_of-self : goal.invariant_of-self
invariant_of-self g c =
    let s = c.args.self.now in
    let entries = g.S.DocSet.entries in
    let same = c.joint_window.ensures.same in
    let long = ap length same in
    let before = length-map s.docsets.items entries in
    let after = length-map c.joint_window.new.scorers.items entries in
    let leading = s.leading in
    record {
      leading = omega (arith, long, before, after, leading);
      meets = subst (λ (ess : List (List Entry)). IsMeeting ess s.doc) (sym same) s.meets;
    }

pub returns-clause-same : goal.returns-clause-same
returns-clause-same g c = ap meeting c.joint_window.ensures.same

pub returns-clause-covers : goal.returns-clause-covers
returns-clause-covers g c =
    let s = c.args.self.now in
    let ess = map g.S.DocSet.entries s.docsets.items in
    covers_listed (enough (length ess) ess) (λ d. joining d (entries_at d ess)) c.args.target c.joint_window.result.until (natural c.joint_window.result.bound) s.meets.rises c.joint_window.ensures.bound
