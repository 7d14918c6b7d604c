use Rattle.std.proofs.Common.{[], ap, drop, map, sym, ◌∙◌}
use Rattle.std.proofs.lemmas.Result.{IfOk-weaker}
use Rattle.any_scorer.proofs.Bounded.{bounded_clauses}
use Rattle.any_scorer.proofs.ByClauses.{left_out}
use Rattle.any_scorer.proofs.ByScores.{excluded}
use Rattle.any_scorer.specs.Clauses.{by_clauses}
use Rattle.definitions.proofs.Lists.{emptied}
use Rattle.docsets.specs.ScoredEntryLaws.{Rising-scores}
use Rattle.docsets.specs.Members.{enough}
use Rattle.any_scorer.proofs.boolean.boolean_scorer.Goals as goal

-- src/clauses.rt:23:1
pub returns-then-is_empty-clause-scores : goal.returns-then-is_empty-clause-scores
returns-then-is_empty-clause-scores g c =
    let empty = emptied c.args.must_nots.items _ _ (sym c.args.must_nots.ok.0) c.is_empty.ensures c.if-is_empty.true in
    λ d l. c.in_ok-counted.ensures d l ∙ ap (λ xs. by_clauses c.args.minimum_number_should_match (map g.S.DocSet.entries c.args.musts.items) (map g.S.DocSet.entries c.args.shoulds.items) (map g.S.DocSet.entries xs) d) (sym empty)

pub returns-then-is_empty-clause-bounded : goal.returns-then-is_empty-clause-bounded
returns-then-is_empty-clause-bounded g c =
    let list = c.in_ok-counted.counted in
    bounded_clauses g.S.DocSet.entries g.met.S.DocSet.rising c.args.minimum_number_should_match c.args.musts.items c.args.shoulds.items [] _ (Rising-scores 0 (drop list.cursor list.pairs.items) list.scores) c.in_ok-counted.ensures

pub returns-then-is_empty-clause-rises : goal.returns-then-is_empty-clause-rises
returns-then-is_empty-clause-rises g c = let list = c.in_ok-counted.counted in Rising-scores 0 (drop list.cursor list.pairs.items) list.scores

pub returns-clause-scores : goal.returns-clause-scores
returns-clause-scores g c =
    let must_nots = map g.S.DocSet.entries c.args.must_nots.items in
    IfOk-weaker c.listed.result _ _ (λ list same d l. excluded _ _ _ _ d (enough 1 must_nots d) _ same c.new-2.ensures (c.new.ensures.excludes d l) (c.in_ok-counted.ensures d l)
    ∙ left_out c.args.minimum_number_should_match d (map g.S.DocSet.entries c.args.musts.items) (map g.S.DocSet.entries c.args.shoulds.items) must_nots) c.listed.ensures

pub returns-clause-bounded : goal.returns-clause-bounded
returns-clause-bounded g c =
    IfOk-weaker c.listed.result _ _ (λ list scores. bounded_clauses g.S.DocSet.entries g.met.S.DocSet.rising c.args.minimum_number_should_match c.args.musts.items c.args.shoulds.items (map g.S.DocSet.entries c.args.must_nots.items) _ (Rising-scores 0 (drop list.cursor list.pairs.items) list.scores) scores) (returns-clause-scores g c)

pub returns-clause-rises : goal.returns-clause-rises
returns-clause-rises g c = IfOk-weaker c.listed.result _ _ (λ list same. Rising-scores 0 (drop list.cursor list.pairs.items) list.scores) c.listed.ensures
