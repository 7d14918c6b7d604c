use Rattle.std.proofs.Common.{ap, arith, map, sym, ◌∙◌, ◌≡◌}
use Rattle.std.proofs.lemmas.List.{length-map}
use Rattle.definitions.specs.Postings.{terminated}
use Rattle.docsets.specs.Entries.{first}
use Rattle.intersections.proofs.MeetingLaws.{Passes-on, few-before, few-led, meeting-end, meeting-first, meeting-same, passes-within}
use Rattle.intersections.proofs.leapfrog.next_match.Goals as goal

pub returns-then-bound-candidate-clause-same : goal.returns-then-bound-candidate-clause-same
returns-then-bound-candidate-clause-same g c =
    let entries = g.D.DocSet.entries in
    let met = c.meet-bound in
    let items = met.new.docsets.items in
    let all = c.args.docsets.now.items in
    let candidate = c.loop-candidate.candidate in
    let is = c.if-bound-candidate.true in
    let on = Passes-on c.args.start candidate met.result (map entries all) (map entries c.loop-candidate.docsets.items) (map entries items) c.loop-candidate.invariant.passes met.ensures.passes in
    let within = passes-within entries c.args.start met.result c.args.lead items all on c.requires.within in
    meeting-same c.args.start met.result (map entries all) (map entries items) on
    (λ d l. few-before entries g.met.D.DocSet.rising candidate d items (met.ensures.leads is) (omega (arith, l, is)) (omega (arith, within)))

pub returns-then-bound-candidate-clause-at : goal.returns-then-bound-candidate-clause-at
returns-then-bound-candidate-clause-at g c =
    let entries = g.D.DocSet.entries in
    let met = c.meet-bound in
    let items = met.new.docsets.items in
    let all = c.args.docsets.now.items in
    let candidate = c.loop-candidate.candidate in
    let is = c.if-bound-candidate.true in
    let on = Passes-on c.args.start candidate met.result (map entries all) (map entries c.loop-candidate.docsets.items) (map entries items) c.loop-candidate.invariant.passes met.ensures.passes in
    let within = passes-within entries c.args.start met.result c.args.lead items all on c.requires.within in
    let every = met.ensures.all is in
    let long = length-map items entries in
    let below = c.loop-candidate-test.true in
    meeting-first candidate (map entries items) (omega (arith, below)) (λ d l. few-before entries g.met.D.DocSet.rising candidate d items (met.ensures.leads is) l (omega (arith, within))) (omega (arith, every, long))

pub loop-candidate-preserved : goal.loop-candidate-preserved
loop-candidate-preserved g c =
    let entries = g.D.DocSet.entries in
    let led = c.lead_on-candidate-in-loop-candidate in
    let met = c.meet-bound in
    let all = c.args.docsets.now.items in
    let on = Passes-on c.args.start c.loop-candidate.candidate met.result (map entries all) (map entries c.loop-candidate.docsets.items) (map entries met.new.docsets.items) c.loop-candidate.invariant.passes met.ensures.passes in
    record {
      passes = Passes-on c.args.start met.result led.result (map entries all) (map entries met.new.docsets.items) (map entries led.new.docsets.items) on led.ensures.passes;
      stands = led.ensures.stands;
    }

pub returns-clause-same : goal.returns-clause-same
returns-clause-same g c =
    let entries = g.D.DocSet.entries in
    let items = c.loop-candidate.docsets.items in
    let inv = c.loop-candidate.invariant in
    let long = inv.passes.long in
    let now = length-map items entries in
    let all = length-map c.args.docsets.now.items entries in
    let within = c.requires.within in
    meeting-same c.args.start c.loop-candidate.candidate (map entries c.args.docsets.now.items) (map entries items) inv.passes (λ d l. few-led entries g.met.D.DocSet.rising c.args.lead c.loop-candidate.candidate items (omega (arith, long, now, all, within)) inv.stands d l)

pub returns-clause-at : goal.returns-clause-at
returns-clause-at g c =
    let entries = g.D.DocSet.entries in
    let items = c.loop-candidate.docsets.items in
    let inv = c.loop-candidate.invariant in
    let long = inv.passes.long in
    let small = inv.passes.small in
    let now = length-map items entries in
    let all = length-map c.args.docsets.now.items entries in
    let within = c.requires.within in
    let end : c.loop-candidate.candidate ≡ terminated = omega (arith, small) in
    end ∙ sym (ap first (meeting-end (map entries items) (λ d l. few-led entries g.met.D.DocSet.rising c.args.lead c.loop-candidate.candidate items (omega (arith, long, now, all, within)) inv.stands d (omega (arith, l, end)))))
