use Rattle.std.proofs.Common.{List, ap, arith, drop, length, map, sym, ◌*◌, ◌++◌, ◌+◌, ◌-◌, ◌∙◌, ◌≡◌, ◌≤◌}
use Rattle.std.proofs.lemmas.List.{append-nil}
use Rattle.definitions.specs.Recorded.{holds}
use Rattle.definitions.specs.Values.{Document}
use Rattle.segment.specs.Opened.{StandsFor}
use Rattle.segment_search.proofs.Flagging.{flagged_step, flagged_within}
use Rattle.segment_search.proofs.Places.{rest_is, zip_at}
use Rattle.definitions.proofs.Lists.{all_first, nothing_left, zip_length}
use Rattle.index_state.proofs.SetSteps.{new_step, one_longer}
use Rattle.index_state.specs.Deletions.{numbered}
use Rattle.index_state.specs.Flags.{flagged_each}
use Rattle.segment_definitions.specs.Waiting.{pending_rows}
use Rattle.index_state.proofs.committed_alive_sets.push_new.Goals as goal

pub loop-at-init : goal.loop-at-init
loop-at-init c =
    let k = c.args.num_committed in (
      c.requires.flagged,
      c.requires.each,
      λ schema analyze n docs stands few small.
          let none : k - k ≡ 0 = omega arith in
          let nothing : n * 0 ≡ 0 = omega arith in
          (few, ap (λ i. flagged_each docs c.args.sets.now.items ++ pending_rows (holds schema analyze) (map (numbered n) c.args.deletions.now) n i (drop k docs)) (ap (λ j. n * j) none ∙ nothing)),
    )

pub loop-at-preserved : goal.loop-at-preserved
loop-at-preserved c =
    let l = c.loop-at in
    let segments = c.args.segments.now in
    let k = c.args.num_committed in
    let at = l.at in
    let s = c.index-segments-at.result in
    let set = c.in_ok-set.set in
    let there = c.loop-at-test.true in
    let here = rest_is segments at s there c.index-segments-at.is in (
      flagged_step segments l.sets.items c.push.new.self.items at s set l.invariant.0 l.invariant.1 here c.in_ok-set.ensures.flagged c.in_ok-push.ensures.items,
      one_longer l.sets.items c.push.new.self.items set at c.in_ok-push.ensures.items l.invariant.1,
      λ schema analyze n docs stands few small.
          let has = holds schema analyze in
          let before = l.invariant.2 schema analyze n docs stands few small in
          let found = zip_at (StandsFor schema analyze) docs segments at s stands there c.index-segments-at.is in
          let within = all_first (λ (ds : List Document). length ds ≤ n) (drop at docs) found.one (drop (at + 1) docs) found.here before.0 in (
            within.1,
            new_step has (map (numbered n) c.args.deletions.now) n k docs l.sets.items c.push.new.self.items at found.one set _ l.auto.at l.invariant.1 found.here c.in_ok-push.ensures.items
                (c.in_ok-set.ensures.rows schema analyze n found.one found.stands within.0 small) before.1,
          ),
    )

pub returns-clause-rows : goal.returns-clause-rows
returns-clause-rows c schema analyze n docs stands few small =
    let l = c.loop-at in
    let before = l.invariant.2 schema analyze n docs stands few small in
    let longs = zip_length (StandsFor schema analyze) docs c.args.segments.now stands in
    let past = c.loop-at-test.false in
    let most : length docs ≤ l.at = omega (arith, longs, past) in
    let none = nothing_left docs l.at most in
    sym (append-nil (flagged_each docs l.sets.items))
    ∙ ap (λ gs. flagged_each docs l.sets.items ++ pending_rows (holds schema analyze) (map (numbered n) c.args.deletions.now) n (n * (l.at - c.args.num_committed)) gs) (sym none)
    ∙ before.1

pub returns-clause-each : goal.returns-clause-each
returns-clause-each c =
    let l = c.loop-at in
    let few = flagged_within c.args.segments.now c.args.sets.now.items c.requires.flagged in
    let each = c.requires.each in
    let start : c.args.num_committed ≤ length c.args.segments.now = omega (arith, few, each) in
    let past = c.loop-at-test.false in
    let end = l.auto.at-end start in
    let long = l.invariant.1 in
    omega (arith, past, end, long)
