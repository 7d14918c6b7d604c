use Rattle.std.proofs.Common.{IsPermutation, ap, arith, length, map, subst, sym}
use Rattle.std.proofs.lemmas.List.{length-map}
use Rattle.std.proofs.lemmas.List.Sorted.{IsPermutation-map, IsPermutation-swap, IsPermutation-trans}
use Rattle.walks.proofs.union_walk.bring_frequent_first.Goals as goal

pub loop-i-preserved : goal.loop-i-preserved
loop-i-preserved g c =
    let entries = g.S.DocSet.entries in
    let before = c.loop-i.scorers.items in
    let looked = c.most_frequent-index.new.scorers.items in
    let after = c.swap.new.self.items in
    let given = map entries c.args.scorers.now.items in
    let same = c.most_frequent-index.ensures.same in
    let long = ap length same in
    let looked_long = length-map looked entries in
    let before_long = length-map before entries in
    let inv_long = c.loop-i.invariant.long in
    let index = c.most_frequent-index.ensures.within in
    let test = c.loop-i-test.true in
    let end = c.min-i-end.ensures in
    let len = c.len.ensures in
    let swapped = c.swap.ensures.len in
    let moved = IsPermutation-map entries looked after (IsPermutation-swap looked after c.loop-i.i c.most_frequent-index.result (omega (arith, long, looked_long, before_long, inv_long, test, end, len)) index c.swap.ensures.items) in
    record {
      moved = IsPermutation-trans given (map entries looked) (map entries after) (subst (IsPermutation given) (sym same) c.loop-i.invariant.moved) moved;
      long = omega (arith, swapped, long, looked_long, before_long, inv_long);
    }
