use Rattle.std.proofs.Common.{◌≡◌, map, take, ℕ}
use Rattle.postings_writer.proofs.serialize_term.gather.Given as goal

-- the positions of the occurrences so far
abbrev pub invariant-loop-occurrence : goal.invariant-loop-occurrence
invariant-loop-occurrence l = l.positions.items ≡ map (λ (p : ℕ × ℕ). p.1) (take l.occurrence-index l.occurrences)
