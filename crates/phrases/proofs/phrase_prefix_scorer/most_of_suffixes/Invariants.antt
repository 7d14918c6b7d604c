use Rattle.std.proofs.Common.{map, take, ◌≤◌}
use Rattle.phrases.specs.PrefixEntries.{most_suffix_positions}
use Rattle.phrases.proofs.phrase_prefix_scorer.most_of_suffixes.Given as goal

-- no document so far has more
abbrev pub invariant-loop-i : goal.invariant-loop-i
invariant-loop-i g l = most_suffix_positions (take l.i (map g.P.DocSet.entries l.suffixes.items)) ≤ l.most
