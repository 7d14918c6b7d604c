use Rattle.std.proofs.Common.{◌*◌, ◌≤◌}
use Rattle.segment_postings.proofs.RestWalks.{WalksCounts}
use Rattle.segment_postings.proofs.rest_check.recorded_rest.Given as goal

abbrev pub invariant-loop : goal.invariant-loop
invariant-loop l = record {
  walks : WalksCounts l.doc_count l.bytes l.counter l.total l.rest;
  few : l.total ≤ 4294967295 * l.counter;
}
