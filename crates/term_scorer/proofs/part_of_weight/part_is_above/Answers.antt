use Rattle.std.proofs.Common.{Bool, ap₂, arith, false, le-leb, leb-false, leb-true, nat_le, nat_lt, refl, suc, sym, true, ◌*◌, ◌+◌, ◌/◌, ◌<◌, ◌∙◌, ◌≡◌, ℕ}
use Rattle.std.proofs.lemmas.Bool.{lt-leb}
use Rattle.std.proofs.lemmas.Nat.{div_below, le-div}
use Rattle.term_scorer.proofs.part_of_weight.part_is_above.Goals as goal

-- a quotient is above a number where the number's successor times the divisor isn't above the dividend
quotient_above : (bar n k : ℕ) → 0 < k → nat_le ((bar + 1) * k) n ≡ nat_lt bar (n / k)
quotient_above bar n k some = go (nat_le ((bar + 1) * k) n) refl
  where
    go : (b : Bool) → nat_le ((bar + 1) * k) n ≡ b → b ≡ nat_lt bar (n / k)
    go true e = sym (le-leb (suc bar) (n / k) (let most = le-div (bar + 1) n k some (leb-true _ _ e) in omega (arith, most)))
    go false e = sym (lt-leb (suc bar) (n / k) (let less = div_below n k (bar + 1) some (leb-false _ _ e) in omega (arith, less)))

pub returns : goal.returns
returns c =
    let some = c.if-count-eq0.false in
    let whole : c.from-4.result ≡ c.args.count + c.args.norm = c.from-4.ensures ∙ ap₂ (λ n m. n + m) c.from.ensures c.from-2.ensures in
    let bars : c.from-3.result * c.from-4.result ≡ (c.args.bar + 1) * (c.args.count + c.args.norm) = ap₂ (λ n m. n * m) c.from-3.ensures whole in
    let products : c.from-5.result * c.from-6.result ≡ c.args.weight * c.args.count = ap₂ (λ n m. n * m) c.from-5.ensures c.from-6.ensures in
    ap₂ (λ n m. nat_le n m) bars products
    ∙ quotient_above c.args.bar (c.args.weight * c.args.count) (c.args.count + c.args.norm) (omega (arith, some))
