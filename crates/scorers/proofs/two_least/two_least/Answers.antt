use Rattle.std.proofs.Common.{[], ap, arith, map, max, min, subst, sym, take, ◌++◌, ◌+◌, ◌∙◌, ◌∷◌, ◌≡◌}
use Rattle.std.proofs.lemmas.List.{length-take-le, map-append, take_all, take_more}
use Rattle.scorers.specs.TwoLeast.{AreTwoLeast}
use Rattle.scorers.proofs.TwoLeastLaws.{two-more, two-none}
use Rattle.scorers.proofs.two_least.two_least.Goals as goal

pub loop-i-init : goal.loop-i-init
loop-i-init g c = let none = c.none-two.ensures in two-none c.none-two.result none.doc none.index none.next

pub loop-i-preserved : goal.loop-i-preserved
loop-i-preserved g c =
    let entries = g.D.DocSet.entries in
    let items = c.args.docsets.now.items in
    let i = c.loop-i.i in
    let now = c.index.result.now in
    let then = c.beside-two.result in
    let beside = c.beside-two.ensures in
    let at = c.doc.ensures in
    let size = length-take-le i items (omega arith) in
    let same : map entries (take (i + 1) items) ≡ map entries (take i items) ++ entries now ∷ [] =
    ap (map entries) (take_more items i now (omega arith)) ∙ (map-append entries (take i items) _ ∙ ap (λ x. map entries (take i items) ++ entries x ∷ []) (sym c.index.ensures)) in
    subst (λ ess. AreTwoLeast ess then) (sym same)
    (two-more entries g.met.D.DocSet.rising (take i items) now c.loop-i.two then c.loop-i.invariant
    (beside.least ∙ ap (min c.loop-i.two.doc) at)
    (beside.next ∙ ap (λ d. min c.loop-i.two.next (max c.loop-i.two.doc d)) at)
    (λ l. beside.before (omega (arith, at, l)) ∙ sym size)
    (λ l. beside.behind (omega (arith, at, l))))

pub returns : goal.returns
returns g c =
    let items = c.args.docsets.now.items in
    subst (λ xs. AreTwoLeast (map g.D.DocSet.entries xs) c.loop-i.two) (take_all c.loop-i.i items (omega arith)) c.loop-i.invariant
