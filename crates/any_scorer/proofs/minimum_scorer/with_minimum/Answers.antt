use Rattle.std.proofs.Common.{[], ap, map, sym, ◌∙◌}
use Rattle.any_scorer.proofs.ByClauses.{filled, only_shoulds}
use Rattle.any_scorer.proofs.ByClauses as clauses
use Rattle.any_scorer.specs.Clauses.{by_clauses}
use Rattle.definitions.proofs.Lists.{emptied}
use Rattle.any_scorer.proofs.minimum_scorer.with_minimum.Goals as goal

pub returns-then-is_empty-clause-scores : goal.returns-then-is_empty-clause-scores
returns-then-is_empty-clause-scores g c =
    let empty = emptied c.args.musts.items _ _ (sym c.args.musts.ok.0) c.is_empty.ensures c.if-is_empty.true in
    let shoulds = map g.S.DocSet.entries c.args.shoulds.items in
    λ d l. c.in_ok-some.ensures.scores d l
    ∙ (only_shoulds c.args.minimum d shoulds
    ∙ ap (λ xs. by_clauses c.args.minimum (map g.S.DocSet.entries xs) shoulds [] d) (sym empty))

pub returns-clause-scores : goal.returns-clause-scores
returns-clause-scores g c =
    let some = filled g.S.DocSet.entries c.args.musts.items _ _ (sym c.args.musts.ok.0) c.is_empty.ensures c.if-is_empty.false in
    let musts = map g.S.DocSet.entries c.args.musts.items in
    let shoulds = map g.S.DocSet.entries c.args.shoulds.items in
    λ d l. c.in_ok-both.ensures.scores d l
    ∙ clauses.with_minimum c.args.minimum d musts shoulds _ _ c.requires.least some (c.all_of-required.ensures.scores d l) (c.in_ok-some-2.ensures.scores d l)
