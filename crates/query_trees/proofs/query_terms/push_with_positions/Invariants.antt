use Rattle.std.proofs.Common.{map, take, ◌++◌, ◌≡◌}
use Rattle.definitions.specs.QueryTerms.{with_positions}
use Rattle.query_trees.specs.NeededTerms.{needed}
use Rattle.query_trees.proofs.query_terms.push_with_positions.Given as goal

-- those so far are found
abbrev pub invariant-loop-offset : goal.invariant-loop-offset
invariant-loop-offset l = map needed l.found.items ≡ map needed l.fn.found.items ++ with_positions (take l._offset-index l.terms)
