use Rattle.std.proofs.Common.{[], ap, map, sum, sym, ◌+◌, ◌∙◌}
use Rattle.std.proofs.lemmas.Result.{IfOk-weaker}
use Rattle.any_scorer.proofs.ByClauses.{filled, only_shoulds, with_shoulds}
use contract.BorrowLft.{⊑_meet, ⊑_static}
use Rattle.any_scorer.proofs.SamePairs.{same_scores}
use Rattle.any_scorer.specs.Clauses.{by_clauses, scores_at}
use Rattle.definitions.proofs.Lists.{emptied}
use Rattle.any_scorer.proofs.boolean.counted_scorer.Goals as goal

pub returns-then-is_empty : goal.returns-then-is_empty
returns-then-is_empty g c =
    let empty = emptied c.args.musts.items _ _ (sym c.args.musts.ok.0) c.is_empty.ensures c.if-is_empty.true in
    let shoulds = map g.S.DocSet.entries c.args.shoulds.items in
    IfOk-weaker c.listed_some.result _ _ (λ list same d l. same_scores d _ _ same
    ∙ (c.in_ok-some.ensures.scores d l
    ∙ (only_shoulds c.args.minimum d shoulds
    ∙ ap (λ xs. by_clauses c.args.minimum (map g.S.DocSet.entries xs) shoulds [] d) (sym empty)))) c.listed_some.ensures

pub returns-then-minimum-eq0 : goal.returns-then-minimum-eq0
returns-then-minimum-eq0 g c =
    let some = filled g.S.DocSet.entries c.args.musts.items _ _ (sym c.args.musts.ok.0) c.is_empty.ensures c.if-is_empty.false in
    let musts = map g.S.DocSet.entries c.args.musts.items in
    let shoulds = map g.S.DocSet.entries c.args.shoulds.items in
    IfOk-weaker c.optional_scorer.result _ _ (λ list scores d l. scores d l
    ∙ (ap (map (λ s. s + sum (scores_at d shoulds))) (c.in_ok-required.ensures.scores some d l)
    ∙ (with_shoulds d musts shoulds some
    ∙ ap (λ m. by_clauses m musts shoulds [] d) (sym c.if-minimum-eq0.true)))) c.optional_scorer.ensures

pub returns : goal.returns
returns g c = IfOk-weaker c.listed.result _ _ (λ list same d l. same_scores d _ _ same ∙ c.in_ok-both.ensures.scores d l) c.listed.ensures

pub branch-both-requires : goal.branch-both-requires
branch-both-requires g c κs = λ before.
    let nil = ⊑_static κs.0 in
    let e1 = ⊑_meet κs.0 _ _ before nil in
    let e2 = ⊑_meet κs.0 _ _ e1 nil in
    let e3 = ⊑_meet κs.0 _ _ e2 nil in
    let e4 = ⊑_meet κs.0 _ _ e1 e3 in
    let e5 = ⊑_meet κs.0 _ _ e4 nil in
    let e6 = ⊑_meet κs.0 _ _ e4 e5 in
    let e7 = ⊑_meet κs.0 _ _ e5 nil in
    let e8 = ⊑_meet κs.0 _ _ e5 e7 in
    let e9 = ⊑_meet κs.0 _ _ e6 e8 in
    let e10 = ⊑_meet κs.0 _ _ before e5 in
    let e11 = ⊑_meet κs.0 _ _ e1 e7 in
    let e12 = ⊑_meet κs.0 _ _ e10 e11 in
    let e13 = ⊑_meet κs.0 _ _ e9 nil in
    let e14 = ⊑_meet κs.0 _ _ e12 e13 in
    let e15 = ⊑_meet κs.0 _ _ e12 nil in
    let e16 = ⊑_meet κs.0 _ _ e13 nil in
    let e17 = ⊑_meet κs.0 _ _ e15 e16 in
    let e18 = ⊑_meet κs.0 _ _ e14 e17 in
    let e19 = ⊑_meet κs.0 _ _ e18 nil in
    let e20 = ⊑_meet κs.0 _ _ e19 nil in
    let e21 = ⊑_meet κs.0 _ _ e20 nil in
    let e22 = ⊑_meet κs.0 _ _ e19 e21 in
    let e23 = ⊑_meet κs.0 _ _ e22 nil in
    let e24 = ⊑_meet κs.0 _ _ e9 e23 in
    let e25 = ⊑_meet κs.0 _ _ e23 nil in
    let e26 = ⊑_meet κs.0 _ _ e13 e25 in
    let e27 = ⊑_meet κs.0 _ _ e24 e26 in
    (e27, ⊑_static κs.1.0)

pub listed-requires : goal.listed-requires
listed-requires g c κs = λ before.
    let nil = ⊑_static κs.0 in
    let e1 = ⊑_meet κs.0 _ _ before nil in
    let e2 = ⊑_meet κs.0 _ _ e1 nil in
    let e3 = ⊑_meet κs.0 _ _ e2 nil in
    let e4 = ⊑_meet κs.0 _ _ e1 e3 in
    let e5 = ⊑_meet κs.0 _ _ e4 nil in
    let e6 = ⊑_meet κs.0 _ _ e4 e5 in
    let e7 = ⊑_meet κs.0 _ _ e5 nil in
    let e8 = ⊑_meet κs.0 _ _ e5 e7 in
    let e9 = ⊑_meet κs.0 _ _ e6 e8 in
    let e10 = ⊑_meet κs.0 _ _ before e5 in
    let e11 = ⊑_meet κs.0 _ _ e1 e7 in
    let e12 = ⊑_meet κs.0 _ _ e10 e11 in
    let e13 = ⊑_meet κs.0 _ _ e9 nil in
    let e14 = ⊑_meet κs.0 _ _ e12 e13 in
    let e15 = ⊑_meet κs.0 _ _ e12 nil in
    let e16 = ⊑_meet κs.0 _ _ e13 nil in
    let e17 = ⊑_meet κs.0 _ _ e15 e16 in
    let e18 = ⊑_meet κs.0 _ _ e14 e17 in
    let e19 = ⊑_meet κs.0 _ _ e18 nil in
    let e20 = ⊑_meet κs.0 _ _ e19 nil in
    let e21 = ⊑_meet κs.0 _ _ e20 nil in
    let e22 = ⊑_meet κs.0 _ _ e19 e21 in
    let e23 = ⊑_meet κs.0 _ _ e22 nil in
    let e24 = ⊑_meet κs.0 _ _ e9 e23 in
    let e25 = ⊑_meet κs.0 _ _ e23 nil in
    let e26 = ⊑_meet κs.0 _ _ e13 e25 in
    let e27 = ⊑_meet κs.0 _ _ e24 e26 in
    e27
