use Rattle.std.proofs.Common.{length, ◌%◌, ◌*◌, ◌+◌, ◌/◌, ◌≡◌, ◌≤◌}
use Rattle.codes.specs.UnpackedBlocks.{listed}
use Rattle.segment_postings.proofs.PassedBlocks.{Passed}
use Rattle.options.specs.RecordOption.{record_option_of}
use Rattle.segment_postings.proofs.full_blocks_check.checked_blocks.Given as goal

abbrev pub invariant-loop : goal.invariant-loop
invariant-loop l = record {
  passed : Passed (record_option_of l.option) (listed l.fieldnorm_reader) l.num_docs l.fn.skips.left (l.doc_freq % 128) l.bytes l.before l.skips.left l.rest l.total;
  many : l.counter + length l.skips.left ≡ l.doc_freq / 128;
  few : l.total ≤ 549755813760 * l.counter;
}
