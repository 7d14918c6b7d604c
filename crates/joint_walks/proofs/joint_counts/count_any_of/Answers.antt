use Rattle.std.proofs.Common.{map}
use Rattle.definitions.specs.ScoredLists.{no_score}
use Rattle.docsets.specs.Members.{combining}
use Rattle.joint_walks.proofs.ClauseDocuments.{any_entries, counts_clauses, within_clauses}
use Rattle.joint_walks.proofs.joint_counts.count_any_of.Goals as goal

pub count_without-requires : goal.count_without-requires
count_without-requires g c =
    let entries = g.S.DocSet.entries in
    within_clauses _ _ _ _ _ (any_entries entries g.met.S.DocSet.rising c.args.shoulds.items (map entries c.args.must_nots.items) (combining (λ xs. no_score xs)) _ c.requires.fits c.in_ok-some.ensures) c.requires.within

pub returns : goal.returns
returns g c =
    let entries = g.S.DocSet.entries in
    counts_clauses _ _ _ _ _ _ (any_entries entries g.met.S.DocSet.rising c.args.shoulds.items (map entries c.args.must_nots.items) (combining (λ xs. no_score xs)) _ c.requires.fits c.in_ok-some.ensures) c.count_without.ensures
