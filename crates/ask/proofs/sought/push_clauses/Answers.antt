use Rattle.std.proofs.Common.{ap, map, reverse, sym, ◌++◌, ◌∙◌}
use Rattle.ask.proofs.Asked.{last_clause, one_clause}
use Rattle.ask.specs.Sought.{clauses_below}
use Rattle.query_trees.specs.Queries.{clauses_of, occur_of, query_of}
use Rattle.query_trees.specs.Walks.{seen}
use Rattle.ask.proofs.sought.push_clauses.Goals as goal

pub loop-occur-preserved : goal.loop-occur-preserved
loop-occur-preserved c =
    let first = map seen c.loop-occur.waiting.items in
    let rest = c.next.new.self.iter.rest.now in
    let clause = c.in-Some.field-0.now in
    ap (λ ws. ws ++ reverse (clauses_below (clauses_of rest))) c.in_ok-push_clause.ensures
    ∙ (one_clause first (clauses_below (clauses_of rest)) (occur_of clause.0) (query_of clause.1)
    ∙ (ap (λ qs. first ++ reverse qs) (sym (last_clause rest clause) ∙ ap (λ cs. clauses_below (clauses_of cs)) (sym c.in-Some.ensures.steps)) ∙ c.loop-occur.invariant))
