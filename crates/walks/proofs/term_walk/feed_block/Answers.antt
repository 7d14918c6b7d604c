use Rattle.std.proofs.Common.{[], List, ap, arith, drop, length, rules, subst, sym, to_z-of_z, w64, ◌+◌, ◌<◌, ◌∙◌, ◌∷◌, ◌≡◌}
use mir.Val.{SFits}
use Rattle.definitions.specs.Postings.{terminated}
use Rattle.definitions.specs.Sinks.{fed}
use Rattle.docsets.proofs.EntryLaws.{drop-one, first_at_most, from-first, from-from, from-step}
use Rattle.docsets.specs.Entries.{Entry, first, first_score, from}
use Rattle.docsets.specs.ScoredEntries.{pairs_of}
use Rattle.walks.proofs.EntryCuts.{fed_last, fed_next, up_to-first}
use Rattle.walks.proofs.ScorerBlocks.{cursor_inside, held_behind, moved_inside, next_inside, stands_already, stands_sought, stays_in}
use Rattle.walks.specs.BlocksLeft.{StandsInBlock, up_to}
use Rattle.codes.specs.SkipBlocks.{last_doc}
use Rattle.term_scorer.specs.ScoredTerms.{scored_left}
use Rattle.term_scorer.specs.ScoredTermsLaws.{rising_scored}
use Rattle.walks.proofs.term_walk.feed_block.Goals.{else-doc-target, then-doc-target}
use Rattle.walks.proofs.term_walk.feed_block.Goals as goal

one_less : (es : List Entry) → first es < terminated → length (drop 1 es) + 1 ≡ length es
one_less [] on = absurd (omega (arith, on))
one_less (e ∷ es) on = omega arith

pub loop-doc-init : goal.loop-doc-init
loop-doc-init g c =
    let before = scored_left c.args.scorer.now in
    let rises = rising_scored c.args.scorer.now in
    let at : c.if-doc-target.doc ≡ first (scored_left c.if-doc-target.scorer) = elim c.if-doc-target.branch [
      | then-doc-target w ↦ w.doc-is ∙ (w.seek-doc.ensures.at ∙ ap (λ s. first (scored_left s)) (sym w.scorer-is))
      | else-doc-target w ↦ w.doc-is ∙ (c.doc-doc.ensures ∙ ap (λ s. first (scored_left s)) (sym w.scorer-is))
    ] in
    let start : scored_left c.if-doc-target.scorer ≡ from c.args.target before = elim c.if-doc-target.branch [
      | then-doc-target w ↦ ap scored_left w.scorer-is ∙ w.seek-doc.ensures.rest
      | else-doc-target w ↦ ap scored_left w.scorer-is ∙ sym (from-first c.args.target 0 before (let here = c.doc-doc.ensures in let late = w.if-doc-target.false in omega (arith, here, late)) rises)
    ] in
    let block : StandsInBlock c.args.target c.args.scorer.now c.if-doc-target.scorer = elim c.if-doc-target.branch [
      | then-doc-target w ↦ subst (λ s. StandsInBlock c.args.target c.args.scorer.now s) (sym w.scorer-is) (stands_sought c.args.target c.args.scorer.now w.seek-doc.new.self w.seek-doc.ensures.moved)
      | else-doc-target w ↦ subst (λ s. StandsInBlock c.args.target c.args.scorer.now s) (sym w.scorer-is) (stands_already c.args.target c.args.scorer.now (let here = c.doc-doc.ensures in let late = w.if-doc-target.false in let behind = held_behind c.args.target c.args.scorer.now (omega (arith, here, late)) in let inside = cursor_inside c.args.scorer.now in omega (arith, behind, inside)))
    ] in
    let room = c.requires.room in
    let len = ap length start in
    let ends = c.requires.ends in
    let ahead = c.requires.ahead in
    let small = c.requires.small in
    record {
      at = at;
      limit = to_z-of_z c.ranges.threshold ∙ c.requires.threshold;
      room = omega (arith, room, len);
      left = ap (from c.args.until) start ∙ from-from c.args.target c.args.until before (omega (arith, ends, ahead, small));
      fed = ap (λ (es : List Entry). fed g.K.Sink.limit g.K.Sink.taken (g.K.Sink.state c.args.sink.now) (pairs_of (up_to c.args.until es))) start;
      block = block;
    }

pub overflow_add-doc : goal.overflow_add-doc
overflow_add-doc g c = (let at = c.loop-doc.invariant.at in let most = first_at_most 0 (scored_left c.loop-doc.scorer) (rising_scored c.loop-doc.scorer) in omega (arith, at, most))

pub overflow_add-doc-2 : goal.overflow_add-doc-2
overflow_add-doc-2 g c = (let at = c.loop-doc.invariant.at in let most = first_at_most 0 (scored_left c.loop-doc.scorer) (rising_scored c.loop-doc.scorer) in omega (arith, at, most))

pub loop-doc-smaller : goal.loop-doc-smaller
loop-doc-smaller g c =
    let at = c.loop-doc.invariant.at in
    let early = c.loop-doc-test.true in
    let ends = c.requires.ends in
    let less = one_less (scored_left c.loop-doc.scorer) (omega (arith, at, early, ends)) in
    let rest = ap length c.advance-doc.ensures.rest in
    omega (arith, less, rest)

pub loop-doc-preserved : goal.loop-doc-preserved
loop-doc-preserved g c =
    let limit = g.K.Sink.limit in
    let taken = g.K.Sink.taken in
    let until = c.args.until in
    let here = c.loop-doc.scorer in
    let es = scored_left here in
    let s = g.K.Sink.state c.loop-doc.sink in
    let next = g.K.Sink.state c.offer_current-threshold.new.sink in
    let at = c.loop-doc.invariant.at in
    let early = c.loop-doc-test.true in
    let ends = c.requires.ends in
    let some : first es < terminated = omega (arith, at, early, ends) in
    let before : first es < until = omega (arith, at, early) in
    let less = one_less es some in
    let rest = ap length c.advance-doc.ensures.rest in
    let left = c.loop-doc.invariant.room in
    let room = c.offer_current-threshold.ensures.room in
    let fits : SFits w64 c.offer_current-threshold.result = search rules in
    let given : next ≡ fed limit taken s ((first es, first_score es) ∷ []) = c.offer_current-threshold.ensures.state ∙ ap (λ d. fed limit taken s ((d, first_score es) ∷ [])) at in
    let block = c.loop-doc.invariant.block in
    let found = ap last_doc (block.skips ∙ sym c.requires.reached) in
    let inside = next_inside here some (omega (arith, at, early, ends, found)) in
    let moved = moved_inside _ here c.advance-doc.new.self inside c.advance-doc.ensures.moved in
    record {
      at = c.advance-doc.ensures.at;
      limit = to_z-of_z fits ∙ c.offer_current-threshold.ensures.next;
      room = omega (arith, less, rest, left, room);
      left = ap (from until) c.advance-doc.ensures.rest ∙ (from-step until es before ∙ c.loop-doc.invariant.left);
      fed = ap (λ (xs : List Entry). fed limit taken next (pairs_of (up_to until xs))) c.advance-doc.ensures.rest
          ∙ (ap (λ u. fed limit taken u (pairs_of (up_to until (drop 1 es)))) given
          ∙ (fed_next limit taken s until es some before
          ∙ c.loop-doc.invariant.fed));
      block = stays_in c.args.target c.args.scorer.now here c.advance-doc.new.self moved block;
    }

pub returns-then-doc-until-clause-state : goal.returns-then-doc-until-clause-state
returns-then-doc-until-clause-state g c =
    let limit = g.K.Sink.limit in
    let taken = g.K.Sink.taken in
    let es = scored_left c.loop-doc.scorer in
    let s = g.K.Sink.state c.loop-doc.sink in
    let next = g.K.Sink.state c.offer_current.new.sink in
    let at = c.loop-doc.invariant.at in
    let here = c.if-doc-until.true in
    let ends = c.requires.ends in
    let some : first es < terminated = omega (arith, at, here, ends) in
    let last : c.args.until ≡ first es + 1 = omega (arith, at, here) in
    let given : next ≡ fed limit taken s ((first es, first_score es) ∷ []) = c.offer_current.ensures.state ∙ ap (λ d. fed limit taken s ((d, first_score es) ∷ [])) at in
    given ∙ (fed_last limit taken s c.args.until 0 es some last (rising_scored c.loop-doc.scorer) ∙ c.loop-doc.invariant.fed)

pub returns-then-doc-until-clause-room : goal.returns-then-doc-until-clause-room
returns-then-doc-until-clause-room g c =
    let es = scored_left c.loop-doc.scorer in
    let at = c.loop-doc.invariant.at in
    let here = c.if-doc-until.true in
    let ends = c.requires.ends in
    let less = one_less es (omega (arith, at, here, ends)) in
    let behind : c.args.until ≡ first es + 1 = omega (arith, at, here) in
    let cut = ap length (ap (λ t. from t es) behind ∙ sym (drop-one 0 es (rising_scored c.loop-doc.scorer))) in
    let left = c.loop-doc.invariant.room in
    let room = c.offer_current.ensures.room in
    omega (arith, less, cut, left, room)

pub returns-clause-state : goal.returns-clause-state
returns-clause-state g c =
    let es = scored_left c.loop-doc.scorer in
    let at = c.loop-doc.invariant.at in
    let late = c.loop-doc-test.false in
    let other = c.if-doc-until.false in
    let none = up_to-first c.args.until 0 es (omega (arith, at, late, other)) (rising_scored c.loop-doc.scorer) in
    sym (ap (λ (xs : List Entry). fed g.K.Sink.limit g.K.Sink.taken (g.K.Sink.state c.loop-doc.sink) (pairs_of xs)) none) ∙ c.loop-doc.invariant.fed

pub returns-clause-room : goal.returns-clause-room
returns-clause-room g c =
    let es = scored_left c.loop-doc.scorer in
    let at = c.loop-doc.invariant.at in
    let late = c.loop-doc-test.false in
    let other = c.if-doc-until.false in
    let whole = ap length (from-first c.args.until 0 es (omega (arith, at, late, other)) (rising_scored c.loop-doc.scorer)) in
    let left = c.loop-doc.invariant.room in
    omega (arith, whole, left)
