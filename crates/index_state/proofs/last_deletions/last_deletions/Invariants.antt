use Rattle.std.proofs.Common.{Bool, drop, map, ◌||◌, ◌≡◌, ℕ}
use Rattle.std.specs.List.{AllByRecursion, list_any}
use Rattle.index_state.proofs.RepeatedDeletions.{Passes}
use Rattle.index_state.specs.Deletions.{IsSmall}
use Rattle.index_state.specs.declared.deletions.Deletion.{Deletion}
use Rattle.index_state.proofs.last_deletions.last_deletions.Given as goal

-- those that are kept, and those that are left to look at, pass a test where all of them do
abbrev pub invariant-loop-at : goal.invariant-loop-at
invariant-loop-at l = record {
  any : (n : ℕ) (test : Deletion → Bool) → AllByRecursion (IsSmall n) l.deletions → Passes n test → (list_any test l.last.items || list_any test (map (λ d. d.now) (drop l.at l.sorted.items))) ≡ list_any test l.deletions;
  small : (n : ℕ) → AllByRecursion (IsSmall n) l.deletions → AllByRecursion (IsSmall n) l.last.items;
}
