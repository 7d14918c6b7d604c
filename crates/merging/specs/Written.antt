-- Postings that were written to the term that is open.
use Rattle.std.specs.Prelude.{◌++◌, ◌+◌, ◌≡◌, List, map, sum_by, ℕ}
use Rattle.definitions.specs.Postings.{Posting}
use Rattle.layouts.specs.Positions.{position_numbers}
use Rattle.postings_writer.specs.FieldWriting.{FieldWriting, IsOpen, IsSameTerm}
use Rattle.postings_writer.specs.TermWriting.{recorded_count}

-- the counts of postings, as the open term records them
abbrev pub counts_in : FieldWriting → List Posting → List ℕ
counts_in w ps = map (λ (p : Posting). recorded_count w.writing.option p.count) ps

-- these postings stand behind those that stood before, their counts are told, and nothing else changed
pub record AreWritten (was now : FieldWriting) (ps : List Posting) : Type 0 where
  pub open_is : (docs counts numbers : List ℕ) → IsOpen was docs counts numbers → IsOpen now (docs ++ map (λ (p : Posting). p.doc) ps) (counts ++ counts_in was ps) (numbers ++ position_numbers (map (λ (p : Posting). p.positions) ps))
  pub total : now.total_term_freq ≡ was.total_term_freq + sum_by (λ (p : Posting). p.count) ps
  pub same : IsSameTerm was now
