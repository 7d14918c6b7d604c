use Rattle.std.proofs.Common.{[], ap, ap₂, arith, length, sym, take, ◌++◌, ◌∙◌, ◌∷◌}
use Rattle.std.proofs.lemmas.List.{take_more}
use Rattle.query_trees.proofs.CopiedNodes.{all_off, clauses_listed, next_taken, none_taken, same_query}
use Rattle.query_trees.specs.Queries.{query_of}
use Rattle.query_trees.specs.Walks.{stack}
use Rattle.query_trees.proofs.copies.clauses_over.Goals as goal

pub loop-occur-init : goal.loop-occur-init
loop-occur-init c =
    let clauses = c.args.clauses.now in
    let copies = stack c.args.copies.now.items in
    (c.in_ok-copied.ensures.items, none_taken (λ d. query_of d.1) clauses copies (ap (λ qs. take (length qs) copies) (sym (clauses_listed clauses)) ∙ (c.requires ∙ clauses_listed clauses)))

pub loop-occur-preserved : goal.loop-occur-preserved
loop-occur-preserved c =
    let clauses = c.args.clauses.now in
    let i = c.loop-occur.occur-index in
    let clause = c.loop-occur-item.result in
    let next = next_taken (λ d. query_of d.1) clauses i clause (stack c.args.copies.now.items) (stack c.loop-occur.copies.items) (stack c.last_copy.new.copies.items) (query_of c.last_copy.result) c.loop-occur-test.true c.loop-occur-item.is c.loop-occur.invariant.1 c.last_copy.ensures in (
      c.in_ok-push.ensures.items
          ∙ (ap₂ (λ l q. l ++ (clause.0, q) ∷ []) c.loop-occur.invariant.0 (same_query c.last_copy.result clause.1 next.0)
          ∙ (ap (λ d. take i clauses ++ d ∷ []) c.loop-occur-item.is ∙ sym (take_more clauses i clause c.loop-occur-test.true))),
      next.1,
    )

pub returns-clause-rest : goal.returns-clause-rest
returns-clause-rest c =
    let clauses = c.args.clauses.now in
    all_off (λ d. query_of d.1) clauses c.loop-occur.occur-index (stack c.args.copies.now.items) (stack c.loop-occur.copies.items) (omega (arith, c.loop-occur-test.false)) c.loop-occur.invariant.1
    ∙ ap (λ qs. qs ++ stack c.loop-occur.copies.items) (sym (clauses_listed clauses))
