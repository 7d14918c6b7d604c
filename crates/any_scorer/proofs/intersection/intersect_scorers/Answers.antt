use Rattle.std.proofs.Common.{ap, arith, length, map, refl, sym, ◌∙◌}
use Rattle.std.proofs.lemmas.Result.{IfOk-weaker}
use Rattle.any_scorer.proofs.ByClauses.{alone, one_list}
use Rattle.any_scorer.proofs.ByScores.{joined}
use Rattle.any_scorer.proofs.SameGreatest.{greatest_below}
use Rattle.any_scorer.proofs.SamePairs.{same_scores}
use Rattle.any_scorer.specs.Clauses.{by_number}
use Rattle.docsets.proofs.AtLeastLaws.{greatest-joined}
use Rattle.docsets.specs.Members.{greatest_sum}
use Rattle.any_scorer.proofs.intersection.intersect_scorers.Goals as goal

pub returns-then-len-ge2-clause-scores : goal.returns-then-len-ge2-clause-scores
returns-then-len-ge2-clause-scores g c = λ some.
    IfOk-weaker c.listed.result _ _ (λ list same. joined (length (map g.S.DocSet.entries c.args.scorers.items)) _ _ (map g.S.DocSet.entries c.args.scorers.items) same c.new.ensures) c.listed.ensures

pub returns-then-len-ge2-clause-bounded : goal.returns-then-len-ge2-clause-bounded
returns-then-len-ge2-clause-bounded g c =
    IfOk-weaker c.listed.result _ _ (λ list same. greatest_below (greatest_sum (map g.S.DocSet.entries c.args.scorers.items)) _ _ _ same c.new.ensures (greatest-joined g.S.DocSet.entries g.met.S.DocSet.rising (length (map g.S.DocSet.entries c.args.scorers.items)) c.args.scorers.items)) c.listed.ensures

pub returns-in-Some-clause-scores : goal.returns-in-Some-clause-scores
returns-in-Some-clause-scores g c =
    let few = c.if-len-ge2.false in
    let len = c.len.ensures in
    let entries = g.S.DocSet.entries in
    let one = alone entries c.args.scorers.items c.pop.new.self.items c.in-Some.scorer c.in-Some.ensures.items (omega (arith, few, len)) in
    λ some. IfOk-weaker c.listed-in-Some.result _ _ (λ list same d l. same_scores d _ (entries c.in-Some.scorer) same
    ∙ (one_list d (entries c.in-Some.scorer) (g.met.S.DocSet.rising c.in-Some.scorer)
    ∙ ap (λ ess. by_number (length ess) ess d) (sym one))) c.listed-in-Some.ensures

pub returns-in-Some-clause-bounded : goal.returns-in-Some-clause-bounded
returns-in-Some-clause-bounded g c =
    let few = c.if-len-ge2.false in
    let len = c.len.ensures in
    let entries = g.S.DocSet.entries in
    let one = ap greatest_sum (alone entries c.args.scorers.items c.pop.new.self.items c.in-Some.scorer c.in-Some.ensures.items (omega (arith, few, len))) in
    IfOk-weaker c.listed-in-Some.result _ _ (λ list same. greatest_below (greatest_sum (map entries c.args.scorers.items)) _ (entries c.in-Some.scorer) _ same refl (omega (arith, one))) c.listed-in-Some.ensures
