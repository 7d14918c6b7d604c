use Rattle.std.proofs.Common.{ap, arith, map, sym, ◌∙◌, ◌≡◌}
use Rattle.std.proofs.lemmas.List.{length-map}
use Rattle.definitions.specs.Postings.{terminated}
use Rattle.docsets.specs.Entries.{first}
use Rattle.intersections.proofs.MeetingLaws.{few-before, few-led, kept-within, meeting-end, meeting-first, meeting-left}
use Rattle.intersections.proofs.ThresholdLaws.{PassLow_on, meeting_low}
use Rattle.intersections.specs.Thresholds.{PassLow}
use Rattle.intersections.proofs.leapfrog_above.next_above.Goals.{After-meet_above-bound}
use Rattle.intersections.proofs.leapfrog_above.next_above.Given.{Over}
use Rattle.intersections.proofs.leapfrog_above.next_above.Goals as goal

-- from the start on to the document that was reached
so_far : (g : Over) (c : After-meet_above-bound g) → PassLow (g.C.ColumnThreshold.score c.args.threshold.now) (g.C.ColumnThreshold.limit c.args.threshold.now) c.args.start c.meet_above-bound.result (map g.S.DocSet.entries c.args.docsets.now.items) (map g.S.DocSet.entries c.meet_above-bound.new.docsets.items)
so_far g c = PassLow_on _ _ c.args.start c.loop-candidate.candidate c.meet_above-bound.result (map g.S.DocSet.entries c.args.docsets.now.items) (map g.S.DocSet.entries c.loop-candidate.docsets.items) (map g.S.DocSet.entries c.meet_above-bound.new.docsets.items) c.loop-candidate.invariant.passes c.meet_above-bound.ensures.passes

pub returns-then-bound-candidate-clause-same : goal.returns-then-bound-candidate-clause-same
returns-then-bound-candidate-clause-same g c =
    let entries = g.S.DocSet.entries in
    let met = c.meet_above-bound in
    let items = met.new.docsets.items in
    let all = c.args.docsets.now.items in
    let is = c.if-bound-candidate.true in
    let on = so_far g (goal.at.returns-then-bound-candidate-clause-same g c).After-meet_above-bound in
    let within = kept-within entries met.result c.args.lead items all on.kept c.requires.within in
    meeting-left met.result (map entries all) (map entries items) on.small on.long on.kept
    (λ d l. few-before entries g.met.S.DocSet.rising c.loop-candidate.candidate d items (met.ensures.leads is) (omega (arith, l, is)) (omega (arith, within)))

pub returns-then-bound-candidate-clause-at : goal.returns-then-bound-candidate-clause-at
returns-then-bound-candidate-clause-at g c =
    let entries = g.S.DocSet.entries in
    let met = c.meet_above-bound in
    let items = met.new.docsets.items in
    let all = c.args.docsets.now.items in
    let candidate = c.loop-candidate.candidate in
    let is = c.if-bound-candidate.true in
    let on = so_far g (goal.at.returns-then-bound-candidate-clause-at g c).After-meet_above-bound in
    let within = kept-within entries met.result c.args.lead items all on.kept c.requires.within in
    let every = met.ensures.all is in
    let long = length-map items entries in
    let below = c.loop-candidate-test.true in
    is ∙ meeting-first candidate (map entries items) (omega (arith, below)) (λ d l. few-before entries g.met.S.DocSet.rising candidate d items (met.ensures.leads is) l (omega (arith, within))) (omega (arith, every, long))

pub returns-then-bound-candidate-clause-low : goal.returns-then-bound-candidate-clause-low
returns-then-bound-candidate-clause-low g c =
    meeting_low _ _ c.args.start c.meet_above-bound.result (map g.S.DocSet.entries c.args.docsets.now.items) (map g.S.DocSet.entries c.meet_above-bound.new.docsets.items) (so_far g (goal.at.returns-then-bound-candidate-clause-low g c).After-meet_above-bound)

pub loop-candidate-preserved : goal.loop-candidate-preserved
loop-candidate-preserved g c =
    let entries = g.S.DocSet.entries in
    let led = c.lead_above-candidate-in-loop-candidate in
    let met = c.meet_above-bound in
    let all = c.args.docsets.now.items in
    record {
      passes = PassLow_on _ _ c.args.start met.result led.result (map entries all) (map entries met.new.docsets.items) (map entries led.new.docsets.items) (so_far g (goal.at.loop-candidate-preserved g c).After-meet_above-bound) led.ensures.passes;
      stands = led.ensures.stands;
    }

pub returns-clause-same : goal.returns-clause-same
returns-clause-same g c =
    let entries = g.S.DocSet.entries in
    let items = c.loop-candidate.docsets.items in
    let inv = c.loop-candidate.invariant in
    let long = inv.passes.long in
    let now = length-map items entries in
    let all = length-map c.args.docsets.now.items entries in
    let within = c.requires.within in
    meeting-left c.loop-candidate.candidate (map entries c.args.docsets.now.items) (map entries items) inv.passes.small inv.passes.long inv.passes.kept (λ d l. few-led entries g.met.S.DocSet.rising c.args.lead c.loop-candidate.candidate items (omega (arith, long, now, all, within)) inv.stands d l)

pub returns-clause-at : goal.returns-clause-at
returns-clause-at g c =
    let entries = g.S.DocSet.entries in
    let items = c.loop-candidate.docsets.items in
    let inv = c.loop-candidate.invariant in
    let long = inv.passes.long in
    let small = inv.passes.small in
    let now = length-map items entries in
    let all = length-map c.args.docsets.now.items entries in
    let within = c.requires.within in
    let end : c.loop-candidate.candidate ≡ terminated = omega (arith, small) in
    end ∙ sym (ap first (meeting-end (map entries items) (λ d l. few-led entries g.met.S.DocSet.rising c.args.lead c.loop-candidate.candidate items (omega (arith, long, now, all, within)) inv.stands d (omega (arith, l, end)))))

pub returns-clause-low : goal.returns-clause-low
returns-clause-low g c =
    meeting_low _ _ c.args.start c.loop-candidate.candidate (map g.S.DocSet.entries c.args.docsets.now.items) (map g.S.DocSet.entries c.loop-candidate.docsets.items) c.loop-candidate.invariant.passes
