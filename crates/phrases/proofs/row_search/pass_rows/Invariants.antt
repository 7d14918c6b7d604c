use Rattle.std.proofs.Common.{length, slice_index, ◌<◌, ◌≤◌, ℕ}
use Rattle.phrases.specs.Rows.{docs_of}
use Rattle.phrases.proofs.row_search.pass_rows.Given as goal

-- all so far are below the document
abbrev pub invariant-loop-step : goal.invariant-loop-step
invariant-loop-step l = record {
  within : l.index ≤ length l.rows;
  passed : (k : ℕ) → k < l.index → slice_index (docs_of l.rows) k < l.doc;
}

abbrev pub decreases-loop-step : goal.decreases-loop-step
decreases-loop-step l = l.step
