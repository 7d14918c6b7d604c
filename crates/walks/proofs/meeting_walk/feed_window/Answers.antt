use Rattle.std.proofs.Common.{List, ap, arith, drop, length, map, nat_abs, rules, sum, sym, to_z-of_z, w64, ◌+◌, ◌<◌, ◌∙◌, ◌∷◌, ◌≡◌, ◌≤◌}
use mir.Val.{SFits, of_z, to_z}
use Rattle.definitions.specs.Postings.{terminated}
use Rattle.definitions.specs.Sinks.{fed}
use Rattle.docsets.proofs.EntryLaws.{drop-one, first-from, first_at_most}
use Rattle.docsets.proofs.MemberLaws.{same-from}
use Rattle.docsets.specs.Entries.{Entry, first, first_score}
use Rattle.docsets.specs.Members.{scores_in}
use Rattle.docsets.specs.ScoredEntries.{pairs_of}
use Rattle.walks.proofs.MeetingWalks.{fits_met, lead_moved, led_on, met, met_is, met_passed, room_met, take_met}
use Rattle.walks.proofs.UnionWalks.{later_on}
use Rattle.walks.specs.Meets.{met_at}
use Rattle.walks.proofs.meeting_walk.feed_window.Given.{Over}
use Rattle.walks.proofs.meeting_walk.feed_window.Goals.{After-advance-doc, After-score-score}
use Rattle.walks.proofs.meeting_walk.feed_window.Goals as goal

pub loop-doc-init : goal.loop-doc-init
loop-doc-init g c =
    let entries = g.S.DocSet.entries in
    let rising = g.met.S.DocSet.rising in
    let limit = g.K.Sink.limit in
    let taken = g.K.Sink.taken in
    let target = c.args.target in
    let start = entries c.args.lead.now ∷ map entries c.args.others.now.items in
    let lead = c.move_to-doc.new.docset in
    let doc = c.move_to-doc.result in
    let at = c.move_to-doc.ensures.at in
    let ahead = c.requires.ahead in
    let within = c.requires.within in
    let low = first-from target (entries c.args.lead.now) (omega (arith, ahead, within)) in
    let is = ap first c.move_to-doc.ensures.rest in
    let small = first_at_most 0 (entries lead) (rising lead) in
    let far : target ≤ doc = omega (arith, at, low, is) in
    let later = lead_moved target (entries c.args.lead.now) (entries lead) (map entries c.args.others.now.items) c.move_to-doc.ensures.rest in
    let passed = met_passed entries rising target doc start lead c.args.others.now.items later.same far (omega (arith, at)) (omega (arith, at, small)) in
    let len = ap length passed in
    let whole = ap length (met_is target start (omega (arith, ahead, within))) in
    let room = c.requires.room in
    record {
      at = at;
      later = later_on target doc start (entries lead ∷ map entries c.args.others.now.items) far later;
      far = far;
      small = omega (arith, at, small);
      limit = to_z-of_z c.ranges.threshold ∙ c.requires.threshold;
      fed = sym (ap (λ (es : List Entry). fed limit taken (g.K.Sink.state c.args.sink.now) (pairs_of es)) passed);
      room = omega (arith, room, whole, len);
    }

-- the leader stands on a document of the window
inside : (g : Over) (c : After-score-score g) → c.loop-doc.doc < terminated
inside g c = (let early = c.loop-doc-test.true in let within = c.requires.within in omega (arith, early, within))

own : (g : Over) (c : After-score-score g) → nat_abs (to_z w64 (of_z w64 c.score-score.result)) ≡ first_score (g.S.DocSet.entries c.loop-doc.lead)
own g c = (let fits : SFits w64 c.score-score.result = search rules in ap nat_abs (to_z-of_z fits ∙ c.score-score.ensures.value))

here_room : (g : Over) (c : After-score-score g) → length (met (g.S.DocSet.entries c.args.lead.now ∷ map g.S.DocSet.entries c.args.others.now.items) c.loop-doc.doc) ≡ length (met_at c.loop-doc.doc (first_score (g.S.DocSet.entries c.loop-doc.lead)) (map g.S.DocSet.entries c.loop-doc.others.items)) + length (met (g.S.DocSet.entries c.args.lead.now ∷ map g.S.DocSet.entries c.args.others.now.items) (c.loop-doc.doc + 1))
here_room g c =
    let entries = g.S.DocSet.entries in
    room_met (entries c.args.lead.now ∷ map entries c.args.others.now.items) (entries c.loop-doc.lead) (map entries c.loop-doc.others.items) c.loop-doc.doc (g.met.S.DocSet.rising c.loop-doc.lead) (sym c.loop-doc.invariant.at) (inside g c) c.loop-doc.invariant.later.same

pub score-score-requires : goal.score-score-requires
score-score-requires g c =
    let at = c.loop-doc.invariant.at in
    let early = c.loop-doc-test.true in
    let within = c.requires.within in
    omega (arith, at, early, within)

pub offer_met-threshold-requires-clause-fits : goal.offer_met-threshold-requires-clause-fits
offer_met-threshold-requires-clause-fits g c =
    let it = (goal.at.offer_met-threshold-requires-clause-fits g c).After-score-score in
    let entries = g.S.DocSet.entries in
    let most = fits_met entries g.met.S.DocSet.rising (c.args.lead.now ∷ c.args.others.now.items) (entries c.loop-doc.lead) (map entries c.loop-doc.others.items) c.loop-doc.doc (g.met.S.DocSet.rising c.loop-doc.lead) (sym c.loop-doc.invariant.at) (inside g it) c.loop-doc.invariant.later.same c.requires.fits in
    let score = own g it in
    omega (arith, most, score)

pub offer_met-threshold-requires-clause-bound : goal.offer_met-threshold-requires-clause-bound
offer_met-threshold-requires-clause-bound g c =
    let entries = g.S.DocSet.entries in
    let doc = c.loop-doc.doc in
    let agree = ap (drop 1) c.loop-doc.invariant.later.same in
    let same = ap (λ es. sum (scores_in es)) (same-from doc doc (map entries c.loop-doc.others.items) (map entries c.args.others.now.items) agree (omega arith)) in
    let bound = c.requires.bound doc c.loop-doc.invariant.far c.loop-doc-test.true in
    omega (arith, same, bound)

pub offer_met-threshold-requires-clause-room : goal.offer_met-threshold-requires-clause-room
offer_met-threshold-requires-clause-room g c =
    let it = (goal.at.offer_met-threshold-requires-clause-room g c).After-score-score in
    let room = c.loop-doc.invariant.room in
    let here = here_room g it in
    let score = ap (λ n. length (met_at c.loop-doc.doc n (map g.S.DocSet.entries c.loop-doc.others.items))) (own g it) in
    omega (arith, room, here, score)

-- the leader goes on
beyond : (g : Over) (c : After-advance-doc g) → c.loop-doc.doc < c.advance-doc.result
beyond g c =
    let es = g.S.DocSet.entries c.loop-doc.lead in
    let at = c.loop-doc.invariant.at in
    let early = c.loop-doc-test.true in
    let within = c.requires.within in
    let small : c.loop-doc.doc < terminated = omega (arith, early, within) in
    let is = ap first (c.advance-doc.ensures.rest ∙ (ap (drop 1) c.score-score.ensures.same ∙ drop-one 0 es (g.met.S.DocSet.rising c.loop-doc.lead))) in
    let far = first-from (first es + 1) es (omega (arith, at, small)) in
    let now = c.advance-doc.ensures.at in
    omega (arith, at, is, far, now)

pub loop-doc-smaller : goal.loop-doc-smaller
loop-doc-smaller g c =
    let it = (goal.at.loop-doc-smaller g c).After-advance-doc in
    let far = beyond g it in
    let early = c.loop-doc-test.true in
    let within = c.requires.within in
    omega (arith, far, early, within)

pub loop-doc-preserved : goal.loop-doc-preserved
loop-doc-preserved g c =
    let it = (goal.at.loop-doc-preserved g c).After-advance-doc in
    let score_it = (goal.at.loop-doc-preserved g c).After-score-score in
    let entries = g.S.DocSet.entries in
    let rising = g.met.S.DocSet.rising in
    let limit = g.K.Sink.limit in
    let taken = g.K.Sink.taken in
    let start = entries c.args.lead.now ∷ map entries c.args.others.now.items in
    let es = entries c.loop-doc.lead in
    let ess = map entries c.loop-doc.others.items in
    let lead = c.advance-doc.new.self in
    let others = c.offer_met-threshold.new.others in
    let doc = c.loop-doc.doc in
    let next = c.advance-doc.result in
    let s = g.K.Sink.state c.loop-doc.sink in
    let t = g.K.Sink.state c.offer_met-threshold.new.sink in
    let inv = c.loop-doc.invariant in
    let at = c.advance-doc.ensures.at in
    let far = beyond g it in
    let so_far = inv.far in
    let small = first_at_most 0 (entries lead) (rising lead) in
    let later = led_on doc start es (entries lead) ess (map entries others.items) inv.later (sym inv.at) (c.advance-doc.ensures.rest ∙ ap (drop 1) c.score-score.ensures.same) c.offer_met-threshold.ensures.later in
    let passed = met_passed entries rising (doc + 1) next start lead others.items later.same (omega (arith, far)) (omega (arith, at)) (omega (arith, at, small)) in
    let state = c.offer_met-threshold.ensures.state ∙ ap (λ n. fed limit taken s (met_at doc n ess)) (own g score_it) in
    let range : SFits w64 c.offer_met-threshold.result = search rules in
    let here = here_room g score_it in
    let score = ap (λ n. length (met_at doc n ess)) (own g score_it) in
    let len = ap length passed in
    let room = inv.room in
    let took = c.offer_met-threshold.ensures.room in
    record {
      at = at;
      later = later_on (doc + 1) next start (entries lead ∷ map entries others.items) (omega (arith, far)) later;
      far = omega (arith, far, so_far);
      small = omega (arith, at, small);
      limit = to_z-of_z range ∙ c.offer_met-threshold.ensures.next;
      fed = sym (ap (λ (xs : List Entry). fed limit taken t (pairs_of xs)) passed)
          ∙ (ap (λ u. fed limit taken u (pairs_of (met start (doc + 1)))) state
          ∙ (take_met limit taken s start es ess doc (rising c.loop-doc.lead) (sym inv.at) (inside g score_it) inv.later.same
          ∙ inv.fed));
      room = omega (arith, here, score, len, room, took);
    }

pub returns-clause-fed : goal.returns-clause-fed
returns-clause-fed g c =
    let entries = g.S.DocSet.entries in
    let limit = g.K.Sink.limit in
    let taken = g.K.Sink.taken in
    let start = entries c.args.lead.now ∷ map entries c.args.others.now.items in
    let ahead = c.requires.ahead in
    let within = c.requires.within in
    ap (λ (es : List Entry). fed limit taken (g.K.Sink.state c.loop-doc.sink) (pairs_of es)) (met_is c.loop-doc.doc start c.loop-doc.invariant.small)
    ∙ (c.loop-doc.invariant.fed
    ∙ ap (λ (es : List Entry). fed limit taken (g.K.Sink.state c.args.sink.now) (pairs_of es)) (sym (met_is c.args.target start (omega (arith, ahead, within)))))

pub returns-clause-room : goal.returns-clause-room
returns-clause-room g c =
    let entries = g.S.DocSet.entries in
    let start = entries c.args.lead.now ∷ map entries c.args.others.now.items in
    let whole = ap length (met_is c.loop-doc.doc start c.loop-doc.invariant.small) in
    let room = c.loop-doc.invariant.room in
    omega (arith, whole, room)
