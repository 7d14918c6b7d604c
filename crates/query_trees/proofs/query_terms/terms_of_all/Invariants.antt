use Rattle.std.proofs.Common.{drop, map, ◌++◌, ◌≡◌}
use Rattle.std.specs.List.{flat_map}
use Rattle.query_trees.specs.NeededTerms.{needed}
use Rattle.query_trees.specs.Walks.{own_terms, seen}
use Rattle.query_trees.proofs.query_terms.terms_of_all.Given as goal

-- those so far and those of what is left make all
abbrev pub invariant-loop-node : goal.invariant-loop-node
invariant-loop-node l = map needed l.found.items ++ flat_map own_terms (map seen (drop l.node-index l.node-items)) ≡ flat_map own_terms (map seen l.node-items)
