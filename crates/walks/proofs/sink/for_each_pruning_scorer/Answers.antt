use Rattle.std.proofs.Common.{List, ap, arith, length, rules, sym, to_z-of_z, w64, ◌∙◌, ◌≡◌, ◌≤◌}
use mir.Val.{SFits}
use Rattle.definitions.specs.Sinks.{fed}
use Rattle.docsets.proofs.EntryLaws.{first_at_most, from-first, from-from}
use Rattle.docsets.specs.Entries.{Entry, from}
use Rattle.docsets.specs.ScoredEntries.{pairs_of}
use Rattle.walks.proofs.BlockWalks.{not_less}
use Rattle.walks.proofs.EntryCuts.{length-from, none_behind}
use Rattle.walks.proofs.WindowWalks.{window_left_out}
use Rattle.walks.proofs.sink.for_each_pruning_scorer.Goals as goal

pub loop-target-init : goal.loop-target-init
loop-target-init g c =
    let es = g.S.DocSet.entries c.args.scorer.now in
    let rises = g.met.S.DocSet.rising c.args.scorer.now in
    let at = c.doc-target.ensures in
    let whole : from c.doc-target.result es ≡ es = from-first c.doc-target.result 0 es (omega (arith, at)) rises in
    let room = c.requires.room in
    let len = ap length whole in
    let most = first_at_most 0 es rises in
    record {
      limit = to_z-of_z c.ranges.threshold ∙ c.requires.threshold;
      left = omega (arith, room, len);
      small = omega (arith, at, most);
      fed = ap (λ (xs : List Entry). fed g.K.Sink.limit g.K.Sink.taken (g.K.Sink.state c.args.sink.now) (pairs_of xs)) whole;
    }

pub loop-target-preserved-then-window-threshold : goal.loop-target-preserved-then-window-threshold
loop-target-preserved-then-window-threshold g c =
    let limit = g.K.Sink.limit in
    let taken = g.K.Sink.taken in
    let until = c.window-window.result.until in
    let after = g.S.DocSet.entries c.feed_up_to-threshold.new.scorer in
    let next = g.K.Sink.state c.feed_up_to-threshold.new.sink in
    let s = g.K.Sink.state c.loop-target.sink in
    let whole : from until after ≡ after = from-first until 0 after c.feed_up_to-threshold.ensures.behind (g.met.S.DocSet.rising c.feed_up_to-threshold.new.scorer) in
    let room = c.feed_up_to-threshold.ensures.room in
    let len = ap length whole in
    let fits : SFits w64 c.feed_up_to-threshold.result = search rules in
    record {
      limit = to_z-of_z fits ∙ c.feed_up_to-threshold.ensures.next;
      left = omega (arith, room, len);
      small = c.window-window.ensures.within;
      fed = ap (λ (xs : List Entry). fed limit taken next (pairs_of xs)) whole
          ∙ (c.feed_up_to-threshold.ensures.fed
          ∙ (ap (λ (xs : List Entry). fed limit taken s (pairs_of (from c.loop-target.target xs))) c.window-window.ensures.same
          ∙ c.loop-target.invariant.fed));
    }

pub loop-target-preserved : goal.loop-target-preserved
loop-target-preserved g c =
    let limit = g.K.Sink.limit in
    let taken = g.K.Sink.taken in
    let window = c.window-window.result in
    let target = c.loop-target.target in
    let before = g.S.DocSet.entries c.loop-target.scorer in
    let s = g.K.Sink.state c.loop-target.sink in
    let same = c.window-window.ensures.same in
    let fits : SFits w64 window.bound = search rules in
    let ahead = c.window-window.ensures.ahead in
    let far : target ≤ window.until = omega (arith, ahead) in
    let left = c.loop-target.invariant.left in
    let fewer = length-from window.until (from target before) in
    let cut = ap length (from-from target window.until before far) in
    let len = ap (λ (xs : List Entry). length (from window.until xs)) same in
    record {
      limit = c.loop-target.invariant.limit;
      left = omega (arith, left, fewer, cut, len);
      small = c.window-window.ensures.within;
      fed = ap (λ (xs : List Entry). fed limit taken s (pairs_of (from window.until xs))) same
          ∙ (window_left_out limit taken s _ window.bound target window.until before c.loop-target.invariant.limit c.window-window.ensures.positive (not_less _ _ window.bound c.if-window-threshold.false (to_z-of_z fits)) far (g.met.S.DocSet.rising c.loop-target.scorer) c.window-window.ensures.covers
          ∙ c.loop-target.invariant.fed);
    }

pub returns : goal.returns
returns g c =
    let es = g.S.DocSet.entries c.loop-target.scorer in
    let late = c.loop-target-test.false in
    let none = none_behind c.loop-target.target 0 es (omega (arith, late)) (g.met.S.DocSet.rising c.loop-target.scorer) in
    let all = c.loop-target.invariant.fed in
    record { state = sym (ap (λ (xs : List Entry). fed g.K.Sink.limit g.K.Sink.taken (g.K.Sink.state c.loop-target.sink) (pairs_of xs)) none) ∙ all }
