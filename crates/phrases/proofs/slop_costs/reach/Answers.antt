use Rattle.std.proofs.Common.{[], ap, arith, drop, get_or, length, sym, ◌++◌, ◌+◌, ◌<◌, ◌∙◌, ◌∷◌, ℕ}
use Rattle.std.proofs.lemmas.List.{append_assoc, drop_more}
use Rattle.phrases.specs.Costs.{nearest_costs}
use Rattle.phrases.proofs.NearestCosts.{positions-order, table-order}
use Rattle.phrases.proofs.slop_costs.reach.Goals as goal

pub first_behind-behind-requires-clause-order : goal.first_behind-behind-requires-clause-order
first_behind-behind-requires-clause-order c = λ i j b l. table-order c.args.most 0 i j c.args.table.now c.requires.table b l

pub loop-i-preserved : goal.loop-i-preserved
loop-i-preserved c =
    let inv = c.loop-i.invariant in
    let i = c.loop-i.i in
    let most = c.args.most in
    let ls = c.args.table.now in
    let ps = c.args.positions.now in
    let r : ℕ = get_or ps i 0 in
    let out = c.loop-i.output.items in
    let inside : i < length ps = omega (arith, c.loop-i-test.true) in
    let long = c.push_reserved.ensures.len in
    let len = inv.len in
    record {
      within = c.first_behind-behind.ensures.within;
      passed = λ k l j b e. (let here = c.first_behind-behind.ensures.passed k l in let order = positions-order 0 i j ps c.requires.ascends (omega (arith, b)) e in omega (arith, here, order));
      items = ap (λ xs. xs ++ nearest_costs most ls (drop (i + 1) ps)) c.push_reserved.ensures.items
          ∙ (append_assoc out ((r, c.cost_at.result) ∷ []) (nearest_costs most ls (drop (i + 1) ps))
          ∙ (ap (λ n. out ++ (r, n) ∷ nearest_costs most ls (drop (i + 1) ps)) c.cost_at.ensures
          ∙ (ap (λ xs. out ++ nearest_costs most ls xs) (sym (drop_more ps i 0 inside))
          ∙ inv.items)));
      len = omega (arith, long, len);
      room = c.push_reserved.ensures.capacity ∙ inv.room;
    }
