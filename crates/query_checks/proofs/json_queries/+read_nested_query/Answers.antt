use Rattle.std.proofs.Common.{Some, ap, drop, option_map, sym, ◌+◌, ◌∙◌}
use Rattle.std.proofs.lemmas.List.{drop_all}
use Rattle.definitions.specs.QueryGrammar.{items_in, many_at}
use Rattle.query_checks.specs.QueryNames.{form_of}
use Rattle.query_checks.proofs.QueryForms.{answered, of_form, refused}
use Rattle.query_checks.proofs.QuerySteps.{before, before_none, clauses_read, item_read}
use Rattle.query_trees.specs.Queries.{query_of}
use Rattle.serde_json.specs.View.{items_view, view}
use Rattle.query_checks.proofs.json_queries.+read_nested_query.Goals as goal

pub read_clauses-returns : goal.read_clauses-returns
read_clauses-returns t c =
    clauses_read (many_at c.args.schema.now (view c.args.json.now)) c.in_ok-musts.musts.items c.in_ok-shoulds.shoulds.items c.in_ok-must_nots.must_nots.items c.new-clauses.result.items c.push_clauses.new.clauses.items c.push_clauses-2.new.clauses.items c.push_clauses-3.new.clauses.items c.new-clauses.ensures.items c.in_ok-musts.ensures c.in_ok-push_clauses.ensures c.in_ok-shoulds.ensures c.in_ok-push_clauses-2.ensures c.in_ok-must_nots.ensures c.in_ok-push_clauses-3.ensures

pub read_items-loop-item-preserved : goal.read_items-loop-item-preserved
read_items-loop-item-preserved t c =
    let schema = c.args.schema.now in
    let items = c.args.items.now in
    let i = c.loop-item.item-index in
    ap (λ queries. option_map (before queries) (items_in schema (items_view (drop (i + 1) items)))) c.in_ok-push.ensures.items
    ∙ item_read schema c.loop-item.queries.items items i c.item-item.result c.in_ok-read_nested_query.field-0 c.loop-item-test.true c.item-item.is c.in_ok-read_nested_query.ensures.ok
    ∙ c.loop-item.invariant

pub read_items-returns : goal.read_items-returns
read_items-returns t c =
    let queries = c.loop-item.queries.items in
    let schema = c.args.schema.now in
    sym c.loop-item.invariant
    ∙ ap (λ l. option_map (before queries) (items_in schema (items_view l))) (drop_all c.loop-item.item-index c.args.items.now c.loop-item-test.false)
    ∙ ap Some (before_none queries)

pub read_nested_query-returns-in-Some-clause-ok : goal.read_nested_query-returns-in-Some-clause-ok
read_nested_query-returns-in-Some-clause-ok t c =
    let schema = c.args.schema.now in
    let form = form_of c.in-Some.form in
    let json = view c.args.json.now in
    answered query_of schema json form c.read_form.result (of_form schema json form c.in-Some.ensures) c.read_form.ensures

pub read_nested_query-returns-in-Some-clause-err : goal.read_nested_query-returns-in-Some-clause-err
read_nested_query-returns-in-Some-clause-err t c =
    let schema = c.args.schema.now in
    let form = form_of c.in-Some.form in
    let json = view c.args.json.now in
    refused query_of schema json form c.read_form.result (of_form schema json form c.in-Some.ensures) c.read_form.ensures
