use Rattle.std.proofs.Common.{arith, length, map, rules, ◌≡◌}
use Rattle.std.proofs.lemmas.Result.{on_ok_weaker}
use contract.BorrowLft.{⊑_static}
use Rattle.joint_walks.proofs.ClauseLists.{at_minimum, complete, fed_such_weaker, have_without, is_fed_such, none_mapped}
use Rattle.joint_walks.proofs.Lifetimes.{with_minimum_ends}
use Rattle.joint_walks.proofs.joint_walks.feed_matching.Goals as goal

pub feed_together-requires-clause-room : goal.feed_together-requires-clause-room
feed_together-requires-clause-room g c =
    let entries = g.S.DocSet.entries in
    let asks = c.asks_for_more.ensures in
    let no = c.if-not-asks_for_more.true in
    let len = c.len.ensures in
    let many : c.len.result ≡ length c.args.musts.items = omega (arith, len) in
    λ es has. c.requires.room es (at_minimum c.args.minimum (map entries c.args.musts.items) (map entries c.args.shoulds.items) (map entries c.args.must_nots.items) (asks.few no) (none_mapped entries c.args.musts.items _ _ many (asks.none no)) es has)

pub returns-then-not-asks_for_more-clause-fed : goal.returns-then-not-asks_for_more-clause-fed
returns-then-not-asks_for_more-clause-fed g c =
    let entries = g.S.DocSet.entries in
    let asks = c.asks_for_more.ensures in
    let no = c.if-not-asks_for_more.true in
    let len = c.len.ensures in
    let many : c.len.result ≡ length c.args.musts.items = omega (arith, len) in
    on_ok_weaker c.feed_together.result (fed_such_weaker g.K.Sink.limit g.K.Sink.taken _ _ _ _ (at_minimum c.args.minimum (map entries c.args.musts.items) (map entries c.args.shoulds.items) (map entries c.args.must_nots.items) (asks.few no) (none_mapped entries c.args.musts.items _ _ many (asks.none no)))) c.feed_together.ensures.fed

pub branch-scorer-requires : goal.branch-scorer-requires
branch-scorer-requires g c κs = λ before. (with_minimum_ends κs.0 g.row.S.lives before, ⊑_static κs.1.0)

pub feed_without-requires-whole : goal.feed_without-requires-whole
feed_without-requires-whole g c = λ κs before.
    let entries = g.S.DocSet.entries in
    let scorer = c.in_ok-scorer.ensures in
    (with_minimum_ends κs.1.0 g.row.S.lives before.0, (before.1.0, (before.1.1.0, (before.1.1.1, (search rules, c.requires.room _ (complete entries g.met.S.DocSet.rising c.args.minimum c.args.musts.items c.args.shoulds.items _ _ (have_without c.args.minimum (map entries c.args.musts.items) (map entries c.args.shoulds.items) (map entries c.args.must_nots.items) _ (scorer.rises, scorer.scores))))))))

pub returns-clause-fed : goal.returns-clause-fed
returns-clause-fed g c =
    let entries = g.S.DocSet.entries in
    let scorer = c.in_ok-scorer.ensures in
    is_fed_such g.K.Sink.limit g.K.Sink.taken _ _ _ _ (complete entries g.met.S.DocSet.rising c.args.minimum c.args.musts.items c.args.shoulds.items _ _ (have_without c.args.minimum (map entries c.args.musts.items) (map entries c.args.shoulds.items) (map entries c.args.must_nots.items) _ (scorer.rises, scorer.scores))) c.feed_without.ensures
