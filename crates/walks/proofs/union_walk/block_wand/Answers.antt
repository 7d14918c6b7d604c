use Rattle.std.proofs.Common.{List, ap, arith, length, map, sym, to_z-of_z, ◌∙◌, ◌≡◌, []}
use Rattle.definitions.specs.Sinks.{fed}
use Rattle.docsets.proofs.MemberLaws.{from-zero}
use Rattle.docsets.specs.Entries.{Entry, from}
use Rattle.docsets.specs.ScoredEntries.{pairs_of}
use Rattle.walks.proofs.UnionOrders.{greatest_moved, length_moved, pairs_moved}
use Rattle.walks.proofs.UnionWalks.{left_is, none_left}
use Rattle.walks.specs.Unions.{union}
use Rattle.walks.proofs.union_walk.block_wand.Goals as goal

pub loop-target-init : goal.loop-target-init
loop-target-init g c =
    let given = map g.S.DocSet.entries c.args.scorers.items in
    let all = map g.S.DocSet.entries c.bring_frequent_first.new.scorers.items in
    let moved = c.bring_frequent_first.ensures in
    let whole = from-zero (union all) in
    let len = ap length whole in
    let long = length_moved given all moved in
    let greatest = greatest_moved given all moved in
    let room = c.requires.room in
    let fits = c.requires.fits in
    record {
      fits = omega (arith, fits, greatest);
      small = omega arith;
      limit = to_z-of_z c.ranges.threshold ∙ c.requires.threshold;
      fed = ap (λ (es : List Entry). fed g.K.Sink.limit g.K.Sink.taken (g.K.Sink.state c.args.sink.now) (pairs_of es)) whole ∙ ap (fed g.K.Sink.limit g.K.Sink.taken (g.K.Sink.state c.args.sink.now)) (pairs_moved given all moved);
      room = omega (arith, room, len, long);
    }

pub returns : goal.returns
returns g c =
    let ess = map g.S.DocSet.entries c.loop-target.scorers.items in
    let late = c.loop-target-test.false in
    let none : from c.loop-target.target (union ess) ≡ [] = left_is c.loop-target.target ess c.loop-target.invariant.small ∙ none_left ess c.loop-target.target (omega (arith, late)) in
    sym (ap (λ (es : List Entry). fed g.K.Sink.limit g.K.Sink.taken (g.K.Sink.state c.loop-target.sink) (pairs_of es)) none) ∙ c.loop-target.invariant.fed
