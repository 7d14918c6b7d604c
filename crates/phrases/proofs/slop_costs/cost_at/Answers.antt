use Rattle.std.proofs.Common.{ap, arith, get_or, length, min, ◌+◌, ◌-◌, ◌∙◌, ◌≡◌}
use Rattle.definitions.specs.Phrases.{distance}
use Rattle.phrases.proofs.NearestCosts.{nearest-neighbours, some-in, table-cost, table-order}
use Rattle.phrases.proofs.slop_costs.cost_at.Goals as goal

pub overflow_add-from_below : goal.overflow_add-from_below
overflow_add-from_below c =
    let within = c.requires.within in
    let some = some-in c.args.table.now (c.is_empty.ensures) c.if-is_empty.false in
    let index = c.saturating_sub.ensures in
    let cost = table-cost c.args.most 0 c.saturating_sub.result c.args.table.now c.requires.table (omega (arith, some, within, index)) in
    let most = c.requires.most in
    let far = c.abs_diff.type_inv in
    let same = c.from.ensures in
    omega (arith, cost, most, far, same)

pub overflow_add-from_above : goal.overflow_add-from_above
overflow_add-from_above c =
    let within = c.requires.within in
    let some = some-in c.args.table.now (c.is_empty.ensures) c.if-is_empty.false in
    let index = c.min.ensures in
    let cost = table-cost c.args.most 0 c.min.result c.args.table.now c.requires.table (omega (arith, some, within, index)) in
    let most = c.requires.most in
    let far = c.abs_diff-2.type_inv in
    let same = c.from-2.ensures in
    omega (arith, cost, most, far, same)

pub returns : goal.returns
returns c =
    let ls = c.args.table.now in
    let most = c.args.most in
    let r = c.args.position in
    let behind = c.args.behind in
    let some = some-in ls (c.is_empty.ensures) c.if-is_empty.false in
    let neighbours = nearest-neighbours most r behind ls (λ i j b l. table-order most 0 i j ls c.requires.table b l) c.requires.gradual some c.requires.within c.requires.passed c.requires.behind in
    let below = c.saturating_sub.ensures in
    let above = c.min.ensures in
    let below_way : c.from.result ≡ distance r (get_or ls (behind - 1) (0, 0)).0 = c.from.ensures ∙ (c.abs_diff.ensures ∙ ap (λ k. distance r (get_or ls k (0, 0)).0) below) in
    let above_way : c.from-2.result ≡ distance r (get_or ls (min behind (length ls - 1)) (0, 0)).0 = c.from-2.ensures ∙ (c.abs_diff-2.ensures ∙ ap (λ k. distance r (get_or ls k (0, 0)).0) above) in
    let below_cost = ap (λ k. (get_or ls k (0, 0)).1) below in
    let above_cost = ap (λ k. (get_or ls k (0, 0)).1) above in
    c.min-3.ensures
    ∙ (ap (min most) (c.min-2.ensures
    ∙ (ap (λ k. min (k + c.from.result) ((get_or ls c.min.result (0, 0)).1 + c.from-2.result)) below_cost
    ∙ (ap (λ k. min ((get_or ls (behind - 1) (0, 0)).1 + c.from.result) (k + c.from-2.result)) above_cost
    ∙ (ap (λ k. min ((get_or ls (behind - 1) (0, 0)).1 + k) ((get_or ls (min behind (length ls - 1)) (0, 0)).1 + c.from-2.result)) below_way
    ∙ ap (λ k. min ((get_or ls (behind - 1) (0, 0)).1 + distance r (get_or ls (behind - 1) (0, 0)).0) ((get_or ls (min behind (length ls - 1)) (0, 0)).1 + k)) above_way))))
    ∙ neighbours)
