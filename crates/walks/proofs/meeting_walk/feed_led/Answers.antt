use Rattle.std.proofs.Common.{[], List, ap, arith, length, map, refl, rules, sym, to_z-of_z, w64, ◌∙◌, ◌∷◌, ◌≡◌}
use mir.Val.{SFits}
use Rattle.definitions.specs.Sinks.{fed}
use Rattle.docsets.proofs.EntryLaws.{first_at_most}
use Rattle.docsets.specs.Entries.{Entry, from}
use Rattle.docsets.specs.ScoredEntries.{pairs_of}
use Rattle.intersections.specs.Meetings.{meeting}
use Rattle.walks.proofs.MeetingWalks.{met_is, met_later, met_passed, none_met}
use Rattle.walks.proofs.meeting_walk.feed_led.Goals as goal

pub loop-target-init : goal.loop-target-init
loop-target-init g c =
    let entries = g.S.DocSet.entries in
    let rising = g.met.S.DocSet.rising in
    let all = entries c.args.lead ∷ map entries c.args.others.items in
    let target = c.doc-target.result in
    let at = c.doc-target.ensures in
    let small = first_at_most 0 (entries c.args.lead) (rising c.args.lead) in
    let passed = met_passed entries rising 0 target all c.args.lead c.args.others.items refl (omega arith) (omega (arith, at)) (omega (arith, at, small)) in
    let whole : from target (meeting all) ≡ meeting all = met_is target all (omega (arith, at, small)) ∙ sym passed in
    let len = ap length whole in
    let room = c.requires.room in
    record {
      fits = c.requires.fits;
      small = omega (arith, at, small);
      limit = to_z-of_z c.ranges.threshold ∙ c.requires.threshold;
      fed = ap (λ (es : List Entry). fed g.K.Sink.limit g.K.Sink.taken (g.K.Sink.state c.args.sink.now) (pairs_of es)) whole;
      room = omega (arith, room, len);
    }

pub loop-target-preserved : goal.loop-target-preserved
loop-target-preserved g c =
    let entries = g.S.DocSet.entries in
    let before = entries c.loop-target.lead ∷ map entries c.loop-target.others.items in
    let step = c.feed_from-fed in
    let after = entries step.new.lead ∷ map entries step.new.others.items in
    let next = step.result.target in
    let later = step.ensures.later in
    let same = met_later next before after step.ensures.within (omega arith) later in
    let len = ap length same in
    let room = step.ensures.room in
    let fits = c.loop-target.invariant.fits in
    let less = later.greatest in
    let range : SFits w64 step.result.threshold = search rules in
    record {
      fits = omega (arith, fits, less);
      small = step.ensures.within;
      limit = to_z-of_z range ∙ step.ensures.next;
      fed = ap (λ (es : List Entry). fed g.K.Sink.limit g.K.Sink.taken (g.K.Sink.state step.new.sink) (pairs_of es)) same ∙ (step.ensures.fed ∙ c.loop-target.invariant.fed);
      room = omega (arith, len, room);
    }

pub returns : goal.returns
returns g c =
    let ess = g.S.DocSet.entries c.loop-target.lead ∷ map g.S.DocSet.entries c.loop-target.others.items in
    let late = c.loop-target-test.false in
    let none : from c.loop-target.target (meeting ess) ≡ [] = met_is c.loop-target.target ess c.loop-target.invariant.small ∙ none_met ess c.loop-target.target (omega (arith, late)) in
    sym (ap (λ (es : List Entry). fed g.K.Sink.limit g.K.Sink.taken (g.K.Sink.state c.loop-target.sink) (pairs_of es)) none) ∙ c.loop-target.invariant.fed
