use Rattle.std.proofs.Common.{ap, arith, ◌/◌, ◌%◌}
use Rattle.codes.proofs.SkipLaws.{merely_some, skips_taken}
use Rattle.codes.specs.SkipBlocks.{entries_of}
use Rattle.codes.proofs.skip_reader.SkipReader.new.Goals as goal

pub invariant_of-result : goal.invariant_of-result
invariant_of-result c = record {
  entries_stand = merely_some c.args.recorded.counts c.args.recorded.positions (c.args.doc_freq / 128) c.args.bytes.now c.requires;
  bytes_fit = (let h = c.ranges.doc_freq.fits in omega arith);
  positions_fit = (let h = c.ranges.doc_freq.fits in omega arith);
}

pub returns : goal.returns
returns c = λ entries skips. ap (λ o. record { counts = c.args.recorded.counts; positions = c.args.recorded.positions; left = entries_of o; rest = c.args.doc_freq % 128; byte_offset = 0; position_offset = 0 }) (skips_taken c.args.recorded.counts c.args.recorded.positions (c.args.doc_freq / 128) c.args.bytes.now entries skips)
