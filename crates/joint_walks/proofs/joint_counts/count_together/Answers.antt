use Rattle.std.proofs.Common.{map, sym}
use Rattle.any_scorer.proofs.ByClauses.{filled}
use Rattle.joint_walks.proofs.ClauseDocuments.{all_documents, counts_clauses, within_clauses}
use Rattle.joint_walks.proofs.joint_counts.count_together.Goals as goal

pub count_without-requires : goal.count_without-requires
count_without-requires g c =
    let entries = g.S.DocSet.entries in
    let some = filled entries c.args.musts.items _ _ (sym c.args.musts.ok.0) c.is_empty.ensures c.if-is_empty.false in
    let all = c.all_of.ensures in
    within_clauses _ _ _ _ _ (all_documents entries g.met.S.DocSet.rising c.args.musts.items c.args.shoulds.items (map entries c.args.must_nots.items) _ some c.requires.fits all.rises all.bounded all.scores) c.requires.within

pub returns : goal.returns
returns g c =
    let entries = g.S.DocSet.entries in
    let some = filled entries c.args.musts.items _ _ (sym c.args.musts.ok.0) c.is_empty.ensures c.if-is_empty.false in
    let all = c.all_of.ensures in
    counts_clauses _ _ _ _ _ _ (all_documents entries g.met.S.DocSet.rising c.args.musts.items c.args.shoulds.items (map entries c.args.must_nots.items) _ some c.requires.fits all.rises all.bounded all.scores) c.count_without.ensures
