use Rattle.std.proofs.Common.{arith, length, map, subst, sym, ◌≡◌}
use Rattle.std.proofs.lemmas.Result.{IfOk-weaker}
use contract.BorrowLft.{⊑_static}
use Rattle.joint_walks.proofs.ClauseLists.{at_minimum, complete, have_without, none_mapped}
use Rattle.joint_walks.proofs.Lifetimes.{with_minimum_ends}
use Rattle.scorer_answers.specs.Matching.{Matches}
use Rattle.joint_walks.proofs.joint_counts.count_matching.Goals as goal

pub count_together-requires-clause-within : goal.count_together-requires-clause-within
count_together-requires-clause-within g c =
    let entries = g.S.DocSet.entries in
    let asks = c.asks_for_more.ensures in
    let no = c.if-not-asks_for_more.true in
    let len = c.len.ensures in
    let many : c.len.result ≡ length c.args.musts.items = omega (arith, len) in
    λ es has. c.requires.within es (at_minimum c.args.minimum (map entries c.args.musts.items) (map entries c.args.shoulds.items) (map entries c.args.must_nots.items) (asks.few no) (none_mapped entries c.args.musts.items _ _ many (asks.none no)) es has)

pub returns-then-not-asks_for_more : goal.returns-then-not-asks_for_more
returns-then-not-asks_for_more g c =
    let entries = g.S.DocSet.entries in
    let asks = c.asks_for_more.ensures in
    let no = c.if-not-asks_for_more.true in
    let len = c.len.ensures in
    let many : c.len.result ≡ length c.args.musts.items = omega (arith, len) in
    IfOk-weaker c.count_together.result _ _ (λ n is weight b q are. is weight b q (λ es has. are es (at_minimum c.args.minimum (map entries c.args.musts.items) (map entries c.args.shoulds.items) (map entries c.args.must_nots.items) (asks.few no) (none_mapped entries c.args.musts.items _ _ many (asks.none no)) es has))) c.count_together.ensures

pub branch-scorer-requires : goal.branch-scorer-requires
branch-scorer-requires g c κs = λ before. (with_minimum_ends κs.0 g.row.S.lives before, ⊑_static κs.1.0)

pub count_without-requires-whole : goal.count_without-requires-whole
count_without-requires-whole g c = λ κs before.
    let entries = g.S.DocSet.entries in
    let scorer = c.in_ok-scorer.ensures in
    (with_minimum_ends κs.1.1.0 g.row.S.lives before.0, (before.1, c.requires.within _ (complete entries g.met.S.DocSet.rising c.args.minimum c.args.musts.items c.args.shoulds.items _ _ (have_without c.args.minimum (map entries c.args.musts.items) (map entries c.args.shoulds.items) (map entries c.args.must_nots.items) _ (scorer.rises, scorer.scores)))))

pub returns : goal.returns
returns g c weight b q are =
    let entries = g.S.DocSet.entries in
    let scorer = c.in_ok-scorer.ensures in
    c.count_without.ensures weight b q (λ es same. subst (Matches weight b q c.args.reader.now) (sym same) (are _ (complete entries g.met.S.DocSet.rising c.args.minimum c.args.musts.items c.args.shoulds.items _ _ (have_without c.args.minimum (map entries c.args.musts.items) (map entries c.args.shoulds.items) (map entries c.args.must_nots.items) _ (scorer.rises, scorer.scores)))))
