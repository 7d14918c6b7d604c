use Rattle.std.proofs.Common.{arith, map}
use Rattle.query_scorers.proofs.Combined.{clauses_score}
use Rattle.query_scorers.proofs.Results.{of_three}
use Rattle.query_scorers.proofs.boolean_query.clauses_scorer.Goals as goal

-- src/clauses.rt:36:5
pub returns : goal.returns
returns g c =
    let few = c.max_doc.ensures.few in
    let many = c.max_doc.ensures.value in
    let said = c.boolean_scorer.ensures in
    λ sim b clauses musts shoulds must_nots. of_three c.boolean_scorer.result _ _ _ _ (λ list scores bounded rises. clauses_score sim b c.args.reader.now (omega (arith, few, many)) clauses c.args.minimum_number_should_match (map g.S.DocSet.entries c.args.musts.items) (map g.S.DocSet.entries c.args.shoulds.items) (map g.S.DocSet.entries c.args.must_nots.items) _ musts shoulds must_nots scores bounded rises) said.scores said.bounded said.rises
