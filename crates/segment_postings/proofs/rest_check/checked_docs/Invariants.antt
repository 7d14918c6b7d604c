use Rattle.std.proofs.Common.{◌≤◌, ◌^◌}
use Rattle.layouts.specs.Deltas.{next_of}
use Rattle.segment_postings.proofs.RestWalks.{WalksDocs}
use Rattle.segment_postings.proofs.rest_check.checked_docs.Given as goal

abbrev pub invariant-loop : goal.invariant-loop
invariant-loop l = record {
  walks : WalksDocs l.num_docs (next_of l.before) l.doc_count l.bytes l.counter l.next l.rest;
  few : l.next ≤ 2 ^ 32;
}
