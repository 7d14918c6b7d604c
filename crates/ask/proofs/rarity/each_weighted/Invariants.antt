-- The queries so far, and those that are left, each with its weight, are all.
use Rattle.std.proofs.Common.{drop, map, ◌++◌, ◌≡◌}
use Rattle.ask.specs.Rarity.{own_weighted}
use Rattle.ask.specs.Views.{weight_of}
use Rattle.query_trees.specs.Queries.{query_of}
use Rattle.ask.proofs.rarity.each_weighted.Given as goal

abbrev pub invariant-loop-query : goal.invariant-loop-query
invariant-loop-query l =
    let weighted = own_weighted (map weight_of l.weights) in
    map query_of l.made.items ++ map weighted (map query_of (drop l.query-index l.queries)) ≡ map weighted (map query_of l.queries)
