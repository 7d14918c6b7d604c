use Rattle.std.proofs.Common.{[], map}
use Rattle.walks.specs.Unions.{union}
use Rattle.joint_walks.proofs.ClauseLists.{complete, has_union, have_any, is_fed_such}
use Rattle.joint_walks.proofs.joint_walks.feed_any.Goals as goal

pub block_wand-requires-clause-room : goal.block_wand-requires-clause-room
block_wand-requires-clause-room g c =
    c.requires.room _ (has_union g.S.DocSet.entries g.met.S.DocSet.rising c.args.shoulds.items c.requires.fits)

pub returns-then-len-le-MOST_IN_WINDOWS-clause-fed : goal.returns-then-len-le-MOST_IN_WINDOWS-clause-fed
returns-then-len-le-MOST_IN_WINDOWS-clause-fed g c =
    let entries = g.S.DocSet.entries in
    is_fed_such g.K.Sink.limit g.K.Sink.taken _ _ _ (union (map entries c.args.shoulds.items)) (has_union entries g.met.S.DocSet.rising c.args.shoulds.items c.requires.fits) c.block_wand.ensures

pub for_each_pruning_scorer-requires-clause-room : goal.for_each_pruning_scorer-requires-clause-room
for_each_pruning_scorer-requires-clause-room g c =
    let entries = g.S.DocSet.entries in
    let shoulds = map entries c.args.shoulds.items in
    let some = c.in_ok-some.ensures in
    c.requires.room _ (complete entries g.met.S.DocSet.rising 0 [] c.args.shoulds.items [] _ (have_any shoulds _ some.rises some.scores))

pub returns-clause-fed : goal.returns-clause-fed
returns-clause-fed g c =
    let entries = g.S.DocSet.entries in
    let shoulds = map entries c.args.shoulds.items in
    let some = c.in_ok-some.ensures in
    is_fed_such g.K.Sink.limit g.K.Sink.taken _ _ _ _ (complete entries g.met.S.DocSet.rising 0 [] c.args.shoulds.items [] _ (have_any shoulds _ some.rises some.scores)) c.for_each_pruning_scorer.ensures.state
