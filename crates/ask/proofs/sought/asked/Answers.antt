use Rattle.std.proofs.Common.{[], ap, ap₂, arith, length, map, sym, ◌++◌, ◌∙◌, ◌∷◌, ◌≡◌}
use Rattle.std.proofs.lemmas.List.{map-append}
use Rattle.ask.proofs.Asked.{fewer, one_listed}
use Rattle.query_trees.specs.Queries.{query_of}
use Rattle.ask.specs.Sought.{asked_back}
use Rattle.query_trees.specs.Walks.{seen}
use Rattle.ask.proofs.sought.asked.Goals as goal

pub loop-node-preserved : goal.loop-node-preserved
loop-node-preserved c =
    let q = query_of c.in-Some.node.now in
    let popped : map seen c.loop-node.waiting.items ≡ map seen c.pop.new.self.items ++ q ∷ [] = ap (map seen) c.in-Some.ensures.items ∙ map-append seen c.pop.new.self.items (c.in-Some.node ∷ []) in
    let pushed : map seen c.push.new.self.items ≡ map seen c.loop-node.nodes.items ++ q ∷ [] = ap (map seen) c.in_ok-push.ensures.items ∙ map-append seen c.loop-node.nodes.items (c.in-Some.node ∷ []) in
    ap₂ (λ ns ws. ns ++ asked_back ws) pushed c.in_ok-push_below.ensures
    ∙ (one_listed (map seen c.loop-node.nodes.items) (map seen c.pop.new.self.items) q
    ∙ (ap (λ ws. map seen c.loop-node.nodes.items ++ asked_back ws) (sym popped) ∙ c.loop-node.invariant))

pub loop-node-smaller : goal.loop-node-smaller
loop-node-smaller c =
    let q = query_of c.in-Some.node.now in
    let popped : map seen c.loop-node.waiting.items ≡ map seen c.pop.new.self.items ++ q ∷ [] = ap (map seen) c.in-Some.ensures.items ∙ map-append seen c.pop.new.self.items (c.in-Some.node ∷ []) in
    omega (arith, ap (λ ws. length (asked_back ws)) popped, ap (λ ws. length (asked_back ws)) c.in_ok-push_below.ensures, fewer (map seen c.pop.new.self.items) q)
