use Rattle.std.proofs.Common.{[], add-one, ap, arith, drop, get_or, length, map, set, sym, take, ◌++◌, ◌∙◌, ◌≡◌, ◌<◌}
use Rattle.std.proofs.lemmas.List.{get_or-map, length-map, map-set}
use Rattle.docsets.specs.Entries.{from}
use Rattle.docsets.proofs.ChangedLists.{changed-all, changed-get, changed-length, changed-set}
use Rattle.docsets.proofs.moves.move_all.Goals as goal

pub loop-i-preserved : goal.loop-i-preserved
loop-i-preserved g c =
    let entries = g.D.DocSet.entries in
    let all = map entries c.args.docsets.now.items in
    let cut = from c.args.target in
    let i = c.loop-i.i in
    let lists = c.loop-i.invariant in
    let long_all = length-map c.args.docsets.now.items entries in
    let inside : i < length all = omega (arith, long_all) in
    let short = ap length lists ∙ changed-length cut i all in
    let long = length-map c.loop-i.docsets.items entries in
    let untouched : get_or all i [] ≡ entries c.index_mut.result.now = sym (changed-get cut i all [] inside) ∙ (ap (λ xs. get_or xs i []) (sym lists) ∙ (get_or-map entries c.loop-i.docsets.items i c.index_mut.result.now [] (omega (arith, short, long, inside)) ∙ ap entries (sym c.index_mut.ensures.value))) in
    map-set entries c.loop-i.docsets.items i c.move_to.new.docset
    ∙ (ap (λ x. set (map entries c.loop-i.docsets.items) i x) (c.move_to.ensures.rest ∙ ap cut (sym untouched))
    ∙ (ap (λ xs. set xs i (cut (get_or all i []))) lists ∙ (changed-set cut i all [] inside ∙ ap (λ n. map cut (take n all) ++ drop n all) (sym (add-one i)))))

pub returns : goal.returns
returns g c =
    let all = map g.D.DocSet.entries c.args.docsets.now.items in
    let long = length-map c.args.docsets.now.items g.D.DocSet.entries in
    c.loop-i.invariant ∙ changed-all (from c.args.target) c.loop-i.i all (omega (arith, long))
