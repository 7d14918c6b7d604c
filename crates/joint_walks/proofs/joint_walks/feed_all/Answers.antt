use Rattle.std.proofs.Common.{[], map}
use Rattle.intersections.specs.Meetings.{meeting}
use Rattle.joint_walks.proofs.ClauseLists.{complete, has_meeting, have_all, is_fed_such, some_mapped}
use Rattle.joint_walks.proofs.joint_walks.feed_all.Goals as goal

pub block_wand_intersection-requires-clause-room : goal.block_wand_intersection-requires-clause-room
block_wand_intersection-requires-clause-room g c =
    c.requires.room _ (has_meeting g.S.DocSet.entries g.met.S.DocSet.rising c.args.musts.items c.requires.some c.requires.fits)

pub returns-then-len-le-MOST_IN_WINDOWS : goal.returns-then-len-le-MOST_IN_WINDOWS
returns-then-len-le-MOST_IN_WINDOWS g c =
    let entries = g.S.DocSet.entries in
    is_fed_such g.K.Sink.limit g.K.Sink.taken _ _ _ (meeting (map entries c.args.musts.items)) (has_meeting entries g.met.S.DocSet.rising c.args.musts.items c.requires.some c.requires.fits) c.block_wand_intersection.ensures

pub for_each_pruning_scorer-requires-clause-room : goal.for_each_pruning_scorer-requires-clause-room
for_each_pruning_scorer-requires-clause-room g c =
    let entries = g.S.DocSet.entries in
    let musts = map entries c.args.musts.items in
    let all = c.all_of-all.ensures in
    c.requires.room _ (complete entries g.met.S.DocSet.rising 0 c.args.musts.items [] [] _ (have_all musts _ (some_mapped entries c.args.musts.items c.requires.some) all.rises all.scores))

pub returns : goal.returns
returns g c =
    let entries = g.S.DocSet.entries in
    let musts = map entries c.args.musts.items in
    let all = c.all_of-all.ensures in
    is_fed_such g.K.Sink.limit g.K.Sink.taken _ _ _ _ (complete entries g.met.S.DocSet.rising 0 c.args.musts.items [] [] _ (have_all musts _ (some_mapped entries c.args.musts.items c.requires.some) all.rises all.scores)) c.for_each_pruning_scorer.ensures.state
