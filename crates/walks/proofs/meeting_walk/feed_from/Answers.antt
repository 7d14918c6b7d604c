use Rattle.std.proofs.Common.{List, ap, ap₂, arith, length, map, pos, subst, sum, sym, to_z-of_z, w64, ◌+◌, ◌∙◌, ◌∷◌, ◌≡◌, ◌≤◌, ◌≤ℤ◌}
use mir.Val.{to_z}
use Rattle.std.proofs.lemmas.Int.{to_z_pos}
use Rattle.definitions.specs.Postings.{terminated}
use Rattle.definitions.specs.Sinks.{fed}
use Rattle.docsets.proofs.EntryLaws.{first-from, first_at_most, from-from}
use Rattle.docsets.proofs.MemberLaws.{sum-scores}
use Rattle.docsets.specs.Entries.{Entry, first, from}
use Rattle.docsets.specs.Members.{entries_at, entries_of, greatest_sum, scores_in}
use Rattle.docsets.specs.ScoredEntries.{pairs_of}
use Rattle.intersections.proofs.BoundLaws.{covered_score}
use Rattle.intersections.specs.Meetings.{meeting}
use Rattle.walks.proofs.BlockWalks.{not_less}
use Rattle.walks.proofs.EntryCuts.{length-from}
use Rattle.walks.proofs.MeetingWalks.{lead_moved, met_is, met_low, met_passed}
use Rattle.walks.proofs.UnionWalks.{later_on}
use Rattle.walks.specs.Unions.{AreLater}
use Rattle.walks.proofs.meeting_walk.feed_from.Given.{Over}
use Rattle.walks.proofs.meeting_walk.feed_from.Goals.{After-bound_together-rest, After-move_to}
use Rattle.walks.proofs.meeting_walk.feed_from.Goals as goal

-- bounds change no list
same : (g : Over) (c : After-bound_together-rest g) → ◌≡◌ {A = List (List Entry)} (g.S.DocSet.entries c.bound_before-own.new.scorer ∷ map g.S.DocSet.entries c.bound_together-rest.new.others.items) (g.S.DocSet.entries c.args.lead.now ∷ map g.S.DocSet.entries c.args.others.now.items)
same g c = ap₂ (λ es ess. es ∷ ess) c.bound_before-own.ensures.same c.bound_together-rest.ensures.same

pub bound_together-rest-requires-clause-fits : goal.bound_together-rest-requires-clause-fits
bound_together-rest-requires-clause-fits g c = (let fits = c.requires.fits in omega (arith, fits))

pub feed_window-requires-clause-bound : goal.feed_window-requires-clause-bound
feed_window-requires-clause-bound g c = λ d late early.
    let same = ap (λ ess. sum (scores_in (entries_at d ess))) c.bound_together-rest.ensures.same in
    let bound = c.bound_together-rest.ensures.bound d late early in
    omega (arith, same, bound)

pub feed_window-requires-clause-fits : goal.feed_window-requires-clause-fits
feed_window-requires-clause-fits g c =
    let it = (goal.at.feed_window-requires-clause-fits g c).After-bound_together-rest in
    let same = ap greatest_sum (same g it) in
    let fits = c.requires.fits in
    omega (arith, same, fits)

pub feed_window-requires-clause-room : goal.feed_window-requires-clause-room
feed_window-requires-clause-room g c =
    let it = (goal.at.feed_window-requires-clause-room g c).After-bound_together-rest in
    let same = ap (λ ess. length (from c.args.target (meeting ess))) (same g it) in
    let room = c.requires.room in
    omega (arith, same, room)

pub returns-then-own-rest-clause-later : goal.returns-then-own-rest-clause-later
returns-then-own-rest-clause-later g c =
    let it = (goal.at.returns-then-own-rest-clause-later g c).After-bound_together-rest in
    subst (λ ess. AreLater c.feed_window.result.target ess (g.S.DocSet.entries c.feed_window.new.lead ∷ map g.S.DocSet.entries c.feed_window.new.others.items)) (same g it) c.feed_window.ensures.later

pub returns-then-own-rest-clause-fed : goal.returns-then-own-rest-clause-fed
returns-then-own-rest-clause-fed g c =
    let it = (goal.at.returns-then-own-rest-clause-fed g c).After-bound_together-rest in
    let limit = g.K.Sink.limit in
    let taken = g.K.Sink.taken in
    subst (λ ess. fed limit taken (g.K.Sink.state c.feed_window.new.sink) (pairs_of (from c.feed_window.result.target (meeting ess))) ≡ fed limit taken (g.K.Sink.state c.args.sink.now) (pairs_of (from c.args.target (meeting ess)))) (same g it) c.feed_window.ensures.fed

pub returns-then-own-rest-clause-room : goal.returns-then-own-rest-clause-room
returns-then-own-rest-clause-room g c =
    let it = (goal.at.returns-then-own-rest-clause-room g c).After-bound_together-rest in
    let same = ap (λ ess. length (from c.feed_window.result.target (meeting ess))) (same g it) in
    let room = c.feed_window.ensures.room in
    omega (arith, same, room)

-- ---- a window that is left out

-- it ends before the end
end : (g : Over) (c : After-move_to g) → c.bound_together-rest.result.until ≤ terminated
end g c = (let until = c.bound_together-rest.ensures.until in let own = c.bound_before-own.ensures.until in omega (arith, until, own))

-- and the leader stands behind it
far : (g : Over) (c : After-move_to g) → c.bound_together-rest.result.until ≤ c.move_to.result
far g c =
    let at = c.move_to.ensures.at in
    let is = ap first c.move_to.ensures.rest in
    let low = first-from c.bound_together-rest.result.until (g.S.DocSet.entries c.bound_before-own.new.scorer) (end g c) in
    omega (arith, at, is, low)

small : (g : Over) (c : After-move_to g) → c.move_to.result ≤ terminated
small g c =
    let at = c.move_to.ensures.at in
    let most = first_at_most 0 (g.S.DocSet.entries c.move_to.new.docset) (g.met.S.DocSet.rising c.move_to.new.docset) in
    omega (arith, at, most)

moved : (g : Over) (c : After-move_to g) → AreLater c.bound_together-rest.result.until (g.S.DocSet.entries c.args.lead.now ∷ map g.S.DocSet.entries c.args.others.now.items) (g.S.DocSet.entries c.move_to.new.docset ∷ map g.S.DocSet.entries c.bound_together-rest.new.others.items)
moved g c =
    let entries = g.S.DocSet.entries in
    let until = c.bound_together-rest.result.until in
    let others = map entries c.bound_together-rest.new.others.items in
    subst (λ ess. AreLater until ess (entries c.move_to.new.docset ∷ others)) (ap₂ (λ (es : List Entry) (ess : List (List Entry)). es ∷ ess) c.bound_before-own.ensures.same c.bound_together-rest.ensures.same) (lead_moved until (entries c.bound_before-own.new.scorer) (entries c.move_to.new.docset) others c.move_to.ensures.rest)

pub returns-clause-later : goal.returns-clause-later
returns-clause-later g c =
    let it = (goal.at.returns-clause-later g c).After-move_to in
    let entries = g.S.DocSet.entries in
    later_on c.bound_together-rest.result.until c.move_to.result (entries c.args.lead.now ∷ map entries c.args.others.now.items) (entries c.move_to.new.docset ∷ map entries c.bound_together-rest.new.others.items) (far g it) (moved g it)

-- what is left is what was left behind the window
skipped : (g : Over) (c : After-move_to g) → from c.move_to.result (meeting (g.S.DocSet.entries c.args.lead.now ∷ map g.S.DocSet.entries c.args.others.now.items)) ≡ from c.bound_together-rest.result.until (meeting (g.S.DocSet.entries c.args.lead.now ∷ map g.S.DocSet.entries c.args.others.now.items))
skipped g c =
    let entries = g.S.DocSet.entries in
    let all = entries c.args.lead.now ∷ map entries c.args.others.now.items in
    let at = c.move_to.ensures.at in
    let passed = met_passed entries g.met.S.DocSet.rising c.bound_together-rest.result.until c.move_to.result all c.move_to.new.docset c.bound_together-rest.new.others.items (moved g c).same (far g c) (omega (arith, at)) (small g c) in
    met_is c.move_to.result all (small g c) ∙ (sym passed ∙ sym (met_is c.bound_together-rest.result.until all (end g c)))

pub returns-clause-fed : goal.returns-clause-fed
returns-clause-fed g c =
    let it = (goal.at.returns-clause-fed g c).After-move_to in
    let entries = g.S.DocSet.entries in
    let rising = g.met.S.DocSet.rising in
    let limit = g.K.Sink.limit in
    let taken = g.K.Sink.taken in
    let s = g.K.Sink.state c.args.sink.now in
    let target = c.args.target in
    let own = c.bound_before-own.result in
    let rest = c.bound_together-rest.result in
    let ahead = c.bound_together-rest.ensures.ahead in
    let ends = c.bound_together-rest.ensures.until in
    let few = c.bound_before-own.ensures.few in
    let fewer = c.bound_together-rest.ensures.few in
    let total : to_z w64 (own.score + rest.score) ≡ pos (own.score + rest.score) = to_z_pos w64 (own.score + rest.score) (omega (arith, few, fewer)) in
    let low = subst (λ u. pos (own.score + rest.score) ≤ℤ u) (to_z-of_z c.ranges.threshold ∙ c.requires.threshold) (not_less _ _ (pos (own.score + rest.score)) c.if-own-rest.false total) in
    ap (λ (es : List Entry). fed limit taken s (pairs_of es)) (skipped g it)
    ∙ met_low entries rising limit taken s target rest.until (own.score + rest.score) (c.args.lead.now ∷ c.args.others.now.items) c.requires.fits (omega (arith, ahead))
    (λ d late early.
    let one = covered_score d target own.until own.score 0 (entries c.args.lead.now) (rising c.args.lead.now) c.bound_before-own.ensures.covers late (omega (arith, early, ends)) in
    let others = c.bound_together-rest.ensures.bound d late early in
    let both = sum-scores (entries_of d (entries c.args.lead.now)) (entries_at d (map entries c.args.others.now.items)) in
    omega (arith, one, others, both))
    low

pub returns-clause-room : goal.returns-clause-room
returns-clause-room g c =
    let it = (goal.at.returns-clause-room g c).After-move_to in
    let all = g.S.DocSet.entries c.args.lead.now ∷ map g.S.DocSet.entries c.args.others.now.items in
    let ahead = c.bound_together-rest.ensures.ahead in
    let left = ap length (skipped g it) in
    let cut = ap length (from-from c.args.target c.bound_together-rest.result.until (meeting all) (omega (arith, ahead))) in
    let fewer = length-from c.bound_together-rest.result.until (from c.args.target (meeting all)) in
    let room = c.requires.room in
    omega (arith, left, cut, fewer, room)

pub returns-clause-ahead : goal.returns-clause-ahead
returns-clause-ahead g c =
    let it = (goal.at.returns-clause-ahead g c).After-move_to in
    let ahead = c.bound_together-rest.ensures.ahead in
    let behind = far g it in
    omega (arith, ahead, behind)

pub returns-clause-within : goal.returns-clause-within
returns-clause-within g c = small g (goal.at.returns-clause-within g c).After-move_to
