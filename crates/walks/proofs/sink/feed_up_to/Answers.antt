use Rattle.std.proofs.Common.{[], List, ap, ap₂, arith, drop, length, rules, to_z-of_z, w64, ◌<◌, ◌∙◌, ◌∷◌, ◌≡◌}
use mir.Val.{SFits}
use Rattle.definitions.specs.Postings.{terminated}
use Rattle.definitions.specs.Scoring.{natural}
use Rattle.definitions.specs.Sinks.{fed}
use Rattle.docsets.proofs.EntryLaws.{Rising-drop}
use Rattle.docsets.specs.Entries.{Entry, first, first_score, from}
use Rattle.docsets.specs.ScoredEntries.{pairs_of}
use Rattle.walks.proofs.EntryCuts.{length-from}
use Rattle.walks.proofs.PassedEntries.{passed_low}
use Rattle.walks.proofs.WindowWalks.{first_fed, one_passed}
use Rattle.walks.proofs.sink.feed_up_to.Goals as goal

pub loop-doc-init : goal.loop-doc-init
loop-doc-init g c =
    let room = c.requires.room in
    let start = c.move_to-doc.ensures.rest in
    let len = ap length start in
    record {
      at = c.move_to-doc.ensures.at;
      limit = to_z-of_z c.ranges.threshold ∙ c.requires.threshold;
      left = omega (arith, room, len);
      fed = ap (λ (es : List Entry). fed g.K.Sink.limit g.K.Sink.taken (g.K.Sink.state c.args.sink.now) (pairs_of es)) start;
    }

pub score-score-requires : goal.score-score-requires
score-score-requires g c =
    let at = c.loop-doc.invariant.at in
    let early = c.loop-doc-test.true in
    let within = c.requires.within in
    omega (arith, at, early, within)

pub offer-threshold-requires-clause-room : goal.offer-threshold-requires-clause-room
offer-threshold-requires-clause-room g c =
    let at = c.loop-doc.invariant.at in
    let early = c.loop-doc-test.true in
    let within = c.requires.within in
    let left = c.loop-doc.invariant.left in
    let some = one_passed (g.S.DocSet.entries c.loop-doc.scorer) (omega (arith, at, early, within)) in
    omega (arith, left, some)

pub loop-doc-smaller : goal.loop-doc-smaller
loop-doc-smaller g c =
    let at = c.loop-doc.invariant.at in
    let early = c.loop-doc-test.true in
    let within = c.requires.within in
    let some = one_passed (g.S.DocSet.entries c.loop-doc.scorer) (omega (arith, at, early, within)) in
    let next = first (g.S.DocSet.entries c.advance_above-doc.new.self) in
    let rest = ap length (c.advance_above-doc.ensures.passes.rest ∙ ap (λ (es : List Entry). from next (drop 1 es)) c.score-score.ensures.same) in
    let fewer = length-from next (drop 1 (g.S.DocSet.entries c.loop-doc.scorer)) in
    omega (arith, some, rest, fewer)

pub loop-doc-preserved : goal.loop-doc-preserved
loop-doc-preserved g c =
    let limit = g.K.Sink.limit in
    let taken = g.K.Sink.taken in
    let es = g.S.DocSet.entries c.loop-doc.scorer in
    let s = g.K.Sink.state c.loop-doc.sink in
    let next = g.K.Sink.state c.offer-threshold.new.sink in
    let at = c.loop-doc.invariant.at in
    let early = c.loop-doc-test.true in
    let within = c.requires.within in
    let on : first es < terminated = omega (arith, at, early, within) in
    let some = one_passed es on in
    let told = g.S.DocSet.entries c.score-score.new.self in
    let after = g.S.DocSet.entries c.advance_above-doc.new.self in
    let passes = c.advance_above-doc.ensures.passes in
    let same = c.score-score.ensures.same in
    let len = ap length (passes.rest ∙ ap (λ (xs : List Entry). from (first after) (drop 1 xs)) same) in
    let fewer = length-from (first after) (drop 1 es) in
    let left = c.loop-doc.invariant.left in
    let room = c.offer-threshold.ensures.room in
    let fits : SFits w64 c.offer-threshold.result = search rules in
    let score_fits : SFits w64 c.score-score.result = search rules in
    let score = ap natural (to_z-of_z score_fits ∙ c.score-score.ensures.value) in
    let given : next ≡ fed limit taken s ((first es, first_score es) ∷ []) = c.offer-threshold.ensures.state ∙ ap₂ (λ d n. fed limit taken s ((d, n) ∷ [])) at score in
    let threshold = to_z-of_z fits ∙ c.offer-threshold.ensures.next in
    record {
      at = c.advance_above-doc.ensures.at;
      limit = threshold;
      left = omega (arith, some, len, fewer, left, room);
      fed = passed_low limit taken next _ (drop 1 told) after threshold (Rising-drop 1 0 told (g.met.S.DocSet.rising c.score-score.new.self)) passes
          ∙ (ap (λ (xs : List Entry). fed limit taken next (pairs_of (drop 1 xs))) same
          ∙ (ap (λ u. fed limit taken u (pairs_of (drop 1 es))) given
          ∙ (first_fed limit taken s es on
          ∙ c.loop-doc.invariant.fed)));
    }
