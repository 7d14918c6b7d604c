use Rattle.std.proofs.Common.{[], ap, map, reverse, rules, sym, ◌++◌, ◌∙◌, ◌∷◌, ◌≡◌}
use Rattle.std.proofs.lemmas.List.{map-append}
use Rattle.query_trees.proofs.AllNodes.{last_child, one_more}
use Rattle.query_trees.specs.Queries.{clauses_of, query_of}
use Rattle.query_trees.specs.Walks.{clauses_children, seen}
use Rattle.query_trees.proofs.node_walks.push_clauses.Goals as goal

pub loop-occur-preserved : goal.loop-occur-preserved
loop-occur-preserved c =
    let first = map seen c.loop-occur.waiting.items in
    let rest = c.next.new.self.iter.rest.now in
    let clause = c.in-Some.field-0.now in
    let pushed : map seen c.push.new.self.items ≡ first ++ query_of clause.1 ∷ [] = search (rules, map-append) in
    ap (λ ws. ws ++ reverse (clauses_children (clauses_of rest))) pushed
    ∙ (one_more first (clauses_children (clauses_of rest)) (query_of clause.1)
    ∙ (ap (λ qs. first ++ reverse qs) (sym (last_child rest clause) ∙ ap (λ cs. clauses_children (clauses_of cs)) (sym c.in-Some.ensures.steps)) ∙ c.loop-occur.invariant))
