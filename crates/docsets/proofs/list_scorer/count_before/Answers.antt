use Rattle.std.proofs.Common.{arith, get_or, length, nat_lt, of_calls, rules, subst, take, ◌<◌, ◌≡◌, ◌≤◌, ℕ, ℤ}
use Rattle.std.proofs.lemmas.Bool.{ltb-false, ltb-true}
use Rattle.std.proofs.lemmas.Fn.{always_returns_same}
use Rattle.std.proofs.lemmas.List.{get_or-take, length-take-le}
use Rattle.std.proofs.lemmas.List.Sorted.{IsNonDecreasingBy-take, IsPartitionedBy-ltb}
use Rattle.docsets.proofs.ListCuts.{cut, not_before, rise}
use Rattle.docsets.proofs.list_scorer.count_before.Goals as goal

pub returns-clause-bound : goal.returns-clause-bound
returns-clause-bound c =
    let reached : c.reach.result ≤ length c.args.pairs.now = c.reach.ensures.bound in
    let long : length (take c.reach.result c.args.pairs.now) ≡ c.reach.result = length-take-le c.reach.result c.args.pairs.now reached in
    let found : c.partition_point.result ≤ length (take c.reach.result c.args.pairs.now) = c.partition_point.ensures.bound in
    omega (arith, found, long, reached)

pub returns-clause-rest : goal.returns-clause-rest
returns-clause-rest c =
    let t = c.args.target in
    let ps = c.args.pairs.now in
    let n = c.reach.result in
    let i = c.partition_point.result in
    let near = IsNonDecreasingBy-take (λ (p : ℕ × ℤ). p.0) n ps (rise 0 ps c.requires) in
    let parts = c.partition_point.ensures.partitioned (λ (p : ℕ × ℤ). nat_lt p.0 t) (always_returns_same _ _ _ (λ a r f k. search (rules, of_calls))) (IsPartitionedBy-ltb (λ (p : ℕ × ℤ). p.0) (take n ps) t near) in
    let reached : n ≤ length ps = c.reach.ensures.bound in
    let long : length (take n ps) ≡ n = length-take-le n ps reached in
    let found : i ≤ length (take n ps) = c.partition_point.ensures.bound in
    cut t 0 i ps c.requires (omega (arith, found, long, reached))
    (λ k d l. (let same = get_or-take n ps k d (omega (arith, l, found, long)) in let here = ltb-true (get_or (take n ps) k d).0 t (parts.0 k d (omega arith) l) in subst (λ (p : ℕ × ℤ). p.0 < t) same here))
    (λ d l. not_before t n i ps d (omega (arith, found, long)) (λ inside. ltb-false (get_or (take n ps) i d).0 t (parts.1 i d (omega arith) (omega (arith, inside, long)))) (λ end. c.reach.ensures.past d end) l)
