use Rattle.std.proofs.Common.{[], List, Some, ◌≡◌, ℕ}
use Rattle.std.specs.List.{slice_index_or}
use Rattle.merging.proofs.MergerSteps.{changed_but}
use Rattle.merging.specs.KeyLists.{first_key, past_key}
use Rattle.merging.proofs.term_merger.pass_first.Given as goal

-- those so far are behind the key, but for the member itself
abbrev pub invariant-loop-number : goal.invariant-loop-number
invariant-loop-number l = (key : List ℕ) → first_key (slice_index_or l.fn.members l.least []) ≡ Some key → l.members ≡ changed_but (past_key key) l.least [] l.number l.fn.members
