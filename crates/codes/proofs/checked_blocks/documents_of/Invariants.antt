-- The documents so far and those of what is left are those of all.
use Rattle.std.proofs.Common.{drop, get_or, length, take, ◌++◌, ◌≡◌, ◌<◌, ◌≤◌, ◌^◌, ℕ}
use Rattle.layouts.specs.Deltas.{documents, next_of}
use Rattle.codes.proofs.checked_blocks.documents_of.Given as goal

abbrev pub invariant-loop-i : goal.invariant-loop-i
invariant-loop-i l = record {
  told : take l.i l.docs ++ documents l.next (drop l.i l.deltas) ≡ documents (next_of l.offset) l.deltas;
  small : (k : ℕ) → get_or l.docs k 0 < 2 ^ 32;
  next : l.next ≤ 2 ^ 32;
  long : length l.docs ≡ 128;
}
