use Rattle.std.proofs.Common.{ap, arith, map, refl, subst, sum, sym, ◌∙◌}
use Rattle.any_scorer.proofs.ByClauses.{one_list, only_one}
use Rattle.any_scorer.proofs.ByScores.{combined}
use Rattle.any_scorer.proofs.SameGreatest.{greatest_below}
use Rattle.any_scorer.specs.Clauses.{by_number}
use Rattle.docsets.proofs.AtLeastLaws.{greatest-summed}
use Rattle.docsets.proofs.MemberLaws.{Rising-listed, sum-greatest}
use Rattle.docsets.specs.Entries.{Rising}
use Rattle.docsets.specs.Members.{combining, enough, entries_at, greatest_sum}
use Rattle.any_scorer.proofs.several.any_of.Goals as goal

pub returns-then-len-eq1-clause-scores : goal.returns-then-len-eq1-clause-scores
returns-then-len-eq1-clause-scores g c =
    let entries = g.S.DocSet.entries in
    let len = c.len.ensures in
    let few = c.if-len-eq1.true in
    let one = only_one entries c.args.scorers.items c.remove.result (omega (arith, len, few)) c.remove.ensures.value in
    λ d l. one_list d (entries c.remove.result) (g.met.S.DocSet.rising c.remove.result) ∙ ap (λ ess. by_number 1 ess d) (sym one)

pub returns-then-len-eq1-clause-bounded : goal.returns-then-len-eq1-clause-bounded
returns-then-len-eq1-clause-bounded g c =
    let entries = g.S.DocSet.entries in
    let len = c.len.ensures in
    let few = c.if-len-eq1.true in
    let one = ap greatest_sum (only_one entries c.args.scorers.items c.remove.result (omega (arith, len, few)) c.remove.ensures.value) in
    omega (arith, one)

pub returns-clause-scores : goal.returns-clause-scores
returns-clause-scores g c = λ d l. combined _ sum 1 _ _ (map g.S.DocSet.entries c.args.scorers.items) refl c.in_ok-union.ensures (λ xs. refl) d l

pub returns-clause-bounded : goal.returns-clause-bounded
returns-clause-bounded g c = greatest_below (greatest_sum (map g.S.DocSet.entries c.args.scorers.items)) _ _ _ refl c.in_ok-union.ensures (greatest-summed g.S.DocSet.entries g.met.S.DocSet.rising 1 c.args.scorers.items)

pub returns-then-len-eq1-clause-rises : goal.returns-then-len-eq1-clause-rises
returns-then-len-eq1-clause-rises g c = g.met.S.DocSet.rising c.remove.result

pub returns-clause-rises : goal.returns-clause-rises
returns-clause-rises g c =
    let ess = map g.S.DocSet.entries c.args.scorers.items in
    let fits = c.requires in
    subst (Rising 0) (sym c.in_ok-union.ensures) (Rising-listed (enough 1 ess) (λ d. combining sum d (entries_at d ess)) 0 (λ d l t is. (let most = sum-greatest g.S.DocSet.entries g.met.S.DocSet.rising d c.args.scorers.items in omega (arith, most, fits))))
