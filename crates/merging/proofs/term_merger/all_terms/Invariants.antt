use Rattle.std.proofs.Common.{take, ◌≡◌}
use Rattle.merging.proofs.term_merger.all_terms.Given as goal

-- the terms of the dictionaries so far
abbrev pub invariant-loop-dictionary : goal.invariant-loop-dictionary
invariant-loop-dictionary l = l.members.items ≡ take l.dictionary-index l.dictionaries
