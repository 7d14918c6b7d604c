use Rattle.std.proofs.Common.{length, ◌≡◌}
use Rattle.definitions.specs.Prefixes.{prefix_end}
use Rattle.leaf_weights.proofs.prefix_ends.prefix_end.Given as goal

-- what was taken away ends nowhere
abbrev pub invariant-loop-last : goal.invariant-loop-last
invariant-loop-last l = prefix_end l.end.items ≡ prefix_end l.fn.prefix

abbrev pub decreases-loop-last : goal.decreases-loop-last
decreases-loop-last l = length l.end.items
