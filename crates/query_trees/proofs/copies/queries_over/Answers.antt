use Rattle.std.proofs.Common.{[], ap, ap₂, arith, length, sym, take, ◌++◌, ◌∙◌, ◌∷◌}
use Rattle.std.proofs.lemmas.List.{take_more}
use Rattle.query_trees.proofs.CopiedNodes.{all_off, next_taken, none_taken, queries_listed, same_query}
use Rattle.query_trees.specs.Queries.{query_of}
use Rattle.query_trees.specs.Walks.{stack}
use Rattle.query_trees.proofs.copies.queries_over.Goals as goal

pub loop-query-init : goal.loop-query-init
loop-query-init c =
    let queries = c.args.queries.now in
    let copies = stack c.args.copies.now.items in
    (c.in_ok-copied.ensures.items, none_taken query_of queries copies (ap (λ qs. take (length qs) copies) (sym (queries_listed queries)) ∙ (c.requires ∙ queries_listed queries)))

pub loop-query-preserved : goal.loop-query-preserved
loop-query-preserved c =
    let queries = c.args.queries.now in
    let i = c.loop-query._query-index in
    let query = c._query-item.result in
    let next = next_taken query_of queries i query (stack c.args.copies.now.items) (stack c.loop-query.copies.items) (stack c.last_copy.new.copies.items) (query_of c.last_copy.result) c.loop-query-test.true c._query-item.is c.loop-query.invariant.1 c.last_copy.ensures in (
      c.in_ok-push.ensures.items
          ∙ (ap₂ (λ l q. l ++ q ∷ []) c.loop-query.invariant.0 (same_query c.last_copy.result query next.0)
          ∙ (ap (λ q. take i queries ++ q ∷ []) c._query-item.is ∙ sym (take_more queries i query c.loop-query-test.true))),
      next.1,
    )

pub returns-clause-rest : goal.returns-clause-rest
returns-clause-rest c =
    let queries = c.args.queries.now in
    all_off query_of queries c.loop-query._query-index (stack c.args.copies.now.items) (stack c.loop-query.copies.items) (omega (arith, c.loop-query-test.false)) c.loop-query.invariant.1
    ∙ ap (λ qs. qs ++ stack c.loop-query.copies.items) (sym (queries_listed queries))
