use Rattle.std.proofs.Common.{slice_index, ◌<◌, ◌≤◌, ℕ}
use Rattle.phrases.specs.Rows.{docs_of}
use Rattle.phrases.proofs.row_search.first_row.Given as goal

-- all so far are below the document
abbrev pub invariant-loop-index : goal.invariant-loop-index
invariant-loop-index l = (k : ℕ) → l.start ≤ k → k < l.index → slice_index (docs_of l.rows) k < l.doc
