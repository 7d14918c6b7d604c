use Rattle.std.proofs.Common.{ap, arith, length, map, refl, subst, sym, ◌∙◌}
use Rattle.any_scorer.proofs.ByClauses.{one_list, only_one}
use Rattle.any_scorer.proofs.ByScores.{joined}
use Rattle.any_scorer.proofs.SameGreatest.{greatest_below}
use Rattle.any_scorer.specs.Clauses.{by_number}
use Rattle.docsets.proofs.AtLeastLaws.{greatest-joined}
use Rattle.docsets.specs.Entries.{Rising}
use Rattle.docsets.specs.Members.{greatest_sum}
use Rattle.intersections.proofs.MeetingLaws.{Rising-meeting}
use Rattle.any_scorer.proofs.several.all_of.Goals as goal

pub returns-then-len-eq1-clause-scores : goal.returns-then-len-eq1-clause-scores
returns-then-len-eq1-clause-scores g c =
    let entries = g.S.DocSet.entries in
    let len = c.len.ensures in
    let few = c.if-len-eq1.true in
    let one = only_one entries c.args.scorers.items c.remove.result (omega (arith, len, few)) c.remove.ensures.value in
    λ d l. one_list d (entries c.remove.result) (g.met.S.DocSet.rising c.remove.result) ∙ ap (λ ess. by_number (length ess) ess d) (sym one)

pub returns-then-len-eq1-clause-bounded : goal.returns-then-len-eq1-clause-bounded
returns-then-len-eq1-clause-bounded g c =
    let entries = g.S.DocSet.entries in
    let len = c.len.ensures in
    let few = c.if-len-eq1.true in
    let one = ap greatest_sum (only_one entries c.args.scorers.items c.remove.result (omega (arith, len, few)) c.remove.ensures.value) in
    omega (arith, one)

pub returns-clause-scores : goal.returns-clause-scores
returns-clause-scores g c = λ d l. joined (length (map g.S.DocSet.entries c.args.scorers.items)) _ _ (map g.S.DocSet.entries c.args.scorers.items) refl c.new.ensures d l

pub returns-clause-bounded : goal.returns-clause-bounded
returns-clause-bounded g c = greatest_below (greatest_sum (map g.S.DocSet.entries c.args.scorers.items)) _ _ _ refl c.new.ensures (greatest-joined g.S.DocSet.entries g.met.S.DocSet.rising (length (map g.S.DocSet.entries c.args.scorers.items)) c.args.scorers.items)

pub returns-then-len-eq1-clause-rises : goal.returns-then-len-eq1-clause-rises
returns-then-len-eq1-clause-rises g c = g.met.S.DocSet.rising c.remove.result

pub returns-clause-rises : goal.returns-clause-rises
returns-clause-rises g c = subst (Rising 0) (sym c.new.ensures) (Rising-meeting g.S.DocSet.entries g.met.S.DocSet.rising c.args.scorers.items c.requires.fits)
