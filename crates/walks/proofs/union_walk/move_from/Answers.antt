use Rattle.std.proofs.Common.{[], ap, arith, drop, get_or, length, map, set, suc, sym, ◌+◌, ◌-◌, ◌<◌, ◌∙◌, ◌≡◌}
use Rattle.std.proofs.lemmas.List.{drop_all, drop_more, get_or-map, length-map, map-set}
use Rattle.docsets.specs.Entries.{first, from}
use Rattle.docsets.specs.Members.{least}
use Rattle.walks.proofs.TailChanges.{drop-tail, tail-all, tail-get, tail-length, tail-none, tail-set, tail_changed}
use Rattle.walks.proofs.UnionWalks.{least_terminated}
use Rattle.walks.proofs.union_walk.move_from.Goals as goal

pub loop-i-init : goal.loop-i-init
loop-i-init g c =
    let all = map g.S.DocSet.entries c.args.scorers.now.items in
    let cut = from c.args.target in
    let zero : c.args.first - c.args.first ≡ 0 = omega arith in
    record {
      begun = omega arith;
      lists = sym (ap (λ j. tail_changed cut c.args.first j all) zero ∙ tail-none cut c.args.first all);
      least = least_terminated g.S.DocSet.entries g.met.S.DocSet.rising c.args.target c.args.first c.args.scorers.now.items;
      small = omega arith;
    }

pub loop-i-preserved : goal.loop-i-preserved
loop-i-preserved g c =
    let entries = g.S.DocSet.entries in
    let all = map entries c.args.scorers.now.items in
    let items = c.loop-i.scorers.items in
    let cut = from c.args.target in
    let n = c.args.first in
    let i = c.loop-i.i in
    let j = i - n in
    let inv = c.loop-i.invariant in
    let begun = inv.begun in
    let here : i ≡ n + j = omega (arith, begun) in
    let next : suc j ≡ i + 1 - n = omega (arith, begun) in
    let long_all = length-map c.args.scorers.now.items entries in
    let long = length-map items entries in
    let short = ap length inv.lists ∙ tail-length cut n j all in
    let inside : i < length all = omega (arith, long_all) in
    let within : i < length items = omega (arith, short, long, inside) in
    let untouched : get_or all i [] ≡ entries c.index_mut.result.now = sym (tail-get cut n j i all [] here inside) ∙ (ap (λ xs. get_or xs i []) (sym inv.lists) ∙ (get_or-map entries items i c.index_mut.result.now [] within ∙ ap entries (sym c.index_mut.ensures.value))) in
    let rest = drop_more all i [] inside in
    let parts = ap (λ ess. least (map cut ess)) rest in
    let so_far = inv.least in
    let small = inv.small in
    let moved = ap first (c.move_to.ensures.rest ∙ ap cut (sym untouched)) in
    let at = c.move_to.ensures.at in
    let now = c.min-doc.ensures in
    record {
      begun = omega (arith, begun);
      lists = map-set entries items i c.move_to.new.docset
          ∙ (ap (λ x. set (map entries items) i x) (c.move_to.ensures.rest ∙ ap cut (sym untouched))
          ∙ (ap (λ xs. set xs i (cut (get_or all i []))) inv.lists ∙ (tail-set cut n j i all [] here inside ∙ ap (λ k. tail_changed cut n k all) next)));
      least = omega (arith, so_far, parts, moved, at, now);
      small = omega (arith, now, small);
    }

pub returns-clause-moved : goal.returns-clause-moved
returns-clause-moved g c =
    let entries = g.S.DocSet.entries in
    let all = map entries c.args.scorers.now.items in
    let long = length-map c.args.scorers.now.items entries in
    c.loop-i.invariant.lists ∙ tail-all (from c.args.target) c.args.first (c.loop-i.i - c.args.first) all (omega (arith, long))

pub returns-clause-least : goal.returns-clause-least
returns-clause-least g c =
    let entries = g.S.DocSet.entries in
    let all = map entries c.args.scorers.now.items in
    let cut = from c.args.target in
    let long = length-map c.args.scorers.now.items entries in
    let lists = c.loop-i.invariant.lists ∙ tail-all cut c.args.first (c.loop-i.i - c.args.first) all (omega (arith, long)) in
    let behind = ap least (ap (drop c.args.first) lists ∙ drop-tail cut c.args.first all) in
    let none = ap (λ ess. least (map cut ess)) (drop_all c.loop-i.i all (omega (arith, long))) in
    let so_far = c.loop-i.invariant.least in
    let small = c.loop-i.invariant.small in
    omega (arith, behind, none, so_far, small)
