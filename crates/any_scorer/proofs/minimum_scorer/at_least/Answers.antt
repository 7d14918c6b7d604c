use Rattle.std.proofs.Common.{ap, arith, map, max, refl, subst, sum, sym, ◌∙◌, ◌≡◌}
use Rattle.any_scorer.proofs.ByScores.{combined}
use Rattle.any_scorer.specs.Clauses.{by_number}
use Rattle.any_scorer.proofs.SameGreatest.{greatest_below}
use Rattle.docsets.proofs.AtLeastLaws.{greatest-summed}
use Rattle.docsets.proofs.MemberLaws.{Rising-listed, sum-greatest}
use Rattle.docsets.specs.Entries.{Rising}
use Rattle.docsets.specs.Members.{combining, enough, entries_at, greatest_sum}
use Rattle.any_scorer.proofs.minimum_scorer.at_least.Goals as goal

pub returns-then-is_walked-clause-scores : goal.returns-then-is_walked-clause-scores
returns-then-is_walked-clause-scores g c =
    let ess = map g.S.DocSet.entries c.args.scorers.items in
    let few = c.is_walked.ensures.few c.if-is_walked.true in
    let same : 1 ≡ max 1 c.args.minimum = omega (arith, few) in
    λ d l. combined _ sum 1 _ _ ess refl c.in_ok-union.ensures (λ xs. refl) d l ∙ ap (λ m. by_number m ess d) same

pub returns-then-is_walked-clause-bounded : goal.returns-then-is_walked-clause-bounded
returns-then-is_walked-clause-bounded g c =
    greatest_below (greatest_sum (map g.S.DocSet.entries c.args.scorers.items)) _ _ _ refl c.in_ok-union.ensures (greatest-summed g.S.DocSet.entries g.met.S.DocSet.rising 1 c.args.scorers.items)

pub returns-then-is_walked-clause-rises : goal.returns-then-is_walked-clause-rises
returns-then-is_walked-clause-rises g c =
    let ess = map g.S.DocSet.entries c.args.scorers.items in
    let fits = c.requires in
    subst (Rising 0) (sym c.in_ok-union.ensures) (Rising-listed (enough 1 ess) (λ d. combining sum d (entries_at d ess)) 0 (λ d l t is. (let most = sum-greatest g.S.DocSet.entries g.met.S.DocSet.rising d c.args.scorers.items in omega (arith, most, fits))))

pub returns-clause-scores : goal.returns-clause-scores
returns-clause-scores g c =
    let ess = map g.S.DocSet.entries c.args.scorers.items in
    let is = c.max.ensures in
    let same : c.max.result ≡ max 1 c.args.minimum = omega (arith, is) in
    λ d l. combined _ sum c.max.result _ _ ess refl c.new.ensures (λ xs. refl) d l ∙ ap (λ m. by_number m ess d) same

pub returns-clause-bounded : goal.returns-clause-bounded
returns-clause-bounded g c =
    greatest_below (greatest_sum (map g.S.DocSet.entries c.args.scorers.items)) _ _ _ refl c.new.ensures (greatest-summed g.S.DocSet.entries g.met.S.DocSet.rising c.max.result c.args.scorers.items)

pub returns-clause-rises : goal.returns-clause-rises
returns-clause-rises g c =
    let ess = map g.S.DocSet.entries c.args.scorers.items in
    let fits = c.requires in
    subst (Rising 0) (sym c.new.ensures) (Rising-listed (enough c.max.result ess) (λ d. combining sum d (entries_at d ess)) 0 (λ d l t is. (let most = sum-greatest g.S.DocSet.entries g.met.S.DocSet.rising d c.args.scorers.items in omega (arith, most, fits))))
