use Rattle.std.proofs.Common.{◌-◌, ◌<◌, ◌≡◌, ◌≤◌, length, ℕ}
use Rattle.postings_writer.proofs.Runs.{doc_at}
use Rattle.postings_writer.proofs.serialize_term.run_end.Given as goal

-- the occurrences so far are of one document
abbrev pub invariant-loop-end : goal.invariant-loop-end
invariant-loop-end l = record {
  above : l.start < l.end;
  within : l.end ≤ length l.occurrences;
  all : (k : ℕ) → l.start ≤ k → k < l.end → doc_at l.occurrences k ≡ l.doc;
}

abbrev pub decreases-loop-end : goal.decreases-loop-end
decreases-loop-end l = length l.occurrences - l.end
