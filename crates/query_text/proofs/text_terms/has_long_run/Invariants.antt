-- The bytes that are left decide.
use Rattle.std.proofs.Common.{drop, ◌≡◌, ◌≤◌}
use Rattle.definitions.specs.Analyzers.{max_run_len}
use Rattle.query_text.specs.Answers.{has_long_run}
use Rattle.query_text.proofs.text_terms.has_long_run.Given as goal

abbrev pub invariant-loop-byte : goal.invariant-loop-byte
invariant-loop-byte l = record {
  few : l.count ≤ max_run_len;
  same : has_long_run l.count (drop l.byte-index l.text) ≡ has_long_run 0 l.text;
}
