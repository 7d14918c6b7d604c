use Rattle.std.proofs.Common.{[], map, rules, ◌≡◌}
use Rattle.query_trees.proofs.CopiedNodes.{at_end, found, turned}
use Rattle.query_trees.specs.Walks.{seen}
use Rattle.query_trees.proofs.copies.all_copied.Goals as goal

pub node_over-requires : goal.node_over-requires
node_over-requires c = found (map seen c.args.waiting.items) c.loop-node.nodes.items c.pop.new.self.items c.in-Some.node c.loop-node.copies.items c.in-Some.ensures.items c.loop-node.invariant.0 c.loop-node.invariant.1

pub loop-node-preserved : goal.loop-node-preserved
loop-node-preserved c =
    turned (map seen c.args.waiting.items) c.loop-node.nodes.items c.pop.new.self.items c.in-Some.node c.loop-node.copies.items c.node_over.new.copies.items c.push.new.self.items c.in_ok-copy.copy
    c.in-Some.ensures.items c.loop-node.invariant.0 c.loop-node.invariant.1 c.in_ok-copy.ensures.copy c.in_ok-copy.ensures.rest c.in_ok-push.ensures.items

pub returns : goal.returns
returns c =
    let none : c.loop-node.nodes.items ≡ [] = search rules in
    at_end (map seen c.args.waiting.items) c.loop-node.nodes.items c.loop-node.copies.items none c.loop-node.invariant.1
