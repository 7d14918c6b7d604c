use Rattle.std.proofs.Common.{ap, arith, drop, length, map, subst, sym, ◌++◌, ◌<◌, ◌∙◌}
use Rattle.std.proofs.lemmas.List.{append-nil}
use Rattle.definitions.proofs.Lists.{nothing_left}
use Rattle.definitions.specs.Recorded.{holds}
use Rattle.segment.specs.Opened.{StandsFor}
use Rattle.segment_search.proofs.Flagging.{flagged_at, flagged_step}
use Rattle.segment_search.proofs.Places.{rest_is, zip_at}
use Rattle.index_state.proofs.SetSteps.{left_step, one_longer}
use Rattle.index_state.specs.Deletions.{term_of}
use Rattle.index_state.specs.Flags.{AreFlagged, flagged_each}
use Rattle.segment_definitions.specs.Rows.{left_rows}
use Rattle.index_state.proofs.committed_alive_sets.push_left.Goals as goal

pub loop-number-init : goal.loop-number-init
loop-number-init c =
    let segments = c.args.segments.now in (
      subst (AreFlagged segments) (sym c.requires.none) tt,
      ap length c.requires.none,
      λ schema analyze docs stands. ap (λ sets. flagged_each docs sets ++ map (left_rows (holds schema analyze) (map term_of c.args.deletions.now)) (flagged_each docs c.args.alive.now)) c.requires.none,
    )

pub left_set-requires : goal.left_set-requires
left_set-requires c = record { flagged = flagged_at c.args.segments.now c.args.alive.now c.loop-number.number c.index-segments-number.result c.index-alive-number.result c.requires.flagged c.loop-number-test.true c.index-segments-number.is c.index-alive-number.is }

pub loop-number-preserved : goal.loop-number-preserved
loop-number-preserved c =
    let l = c.loop-number in
    let segments = c.args.segments.now in
    let alive = c.args.alive.now in
    let at = l.number in
    let s = c.index-segments-number.result in
    let set = c.in_ok-set.set in
    let there = c.loop-number-test.true in
    let few = c.requires.within in
    let inside : at < length segments = omega (arith, there, few) in
    let here = rest_is segments at s inside c.index-segments-number.is in
    let flags_here = rest_is alive at c.index-alive-number.result there c.index-alive-number.is in (
      flagged_step segments l.sets.items c.push.new.self.items at s set l.invariant.0 l.invariant.1 here c.in_ok-set.ensures.flagged c.in_ok-push.ensures.items,
      one_longer l.sets.items c.push.new.self.items set at c.in_ok-push.ensures.items l.invariant.1,
      λ schema analyze docs stands.
          let left = left_rows (holds schema analyze) (map term_of c.args.deletions.now) in
          let found = zip_at (StandsFor schema analyze) docs segments at s stands inside c.index-segments-number.is in
          left_step left docs alive l.sets.items c.push.new.self.items at found.one c.index-alive-number.result set _ l.invariant.1 found.here flags_here c.in_ok-push.ensures.items (c.in_ok-set.ensures.rows schema analyze found.one found.stands) (l.invariant.2 schema analyze docs stands),
    )

pub returns-clause-rows : goal.returns-clause-rows
returns-clause-rows c schema analyze docs stands =
    let l = c.loop-number in
    let left = left_rows (holds schema analyze) (map term_of c.args.deletions.now) in
    let none = nothing_left c.args.alive.now l.number c.loop-number-test.false in
    sym (append-nil (flagged_each docs l.sets.items))
    ∙ ap (λ sets. flagged_each docs l.sets.items ++ map left (flagged_each (drop l.number docs) sets)) (sym none)
    ∙ l.invariant.2 schema analyze docs stands
