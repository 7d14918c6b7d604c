use Rattle.std.proofs.Common.{arith, drop, length, length-drop, refl, rules, ◌*◌, ◌<◌, ◌≤◌, ◌^◌}
use Rattle.segment_postings.proofs.BlockChecks.{block_room}
use Rattle.codes.specs.UnpackedBlocks.{listed}
use Rattle.layouts.specs.Deltas.{next_of}
use Rattle.options.specs.RecordOption.{record_option_of}
use Rattle.segment_postings.proofs.full_block_check.checked_block.Goals as goal
use Rattle.segment_postings.specs.Blocks.{entry_of}

pub returns-in_default-clause-err : goal.returns-in_default-clause-err
returns-in_default-clause-err c =
    let short : length c.args.bytes.now < 16 * c.args.entry.doc_width = search rules in
    (refl, λ total b. absurd (let few : c.args.num_docs ≤ 2 ^ 32 = omega arith in let room = block_room (record_option_of c.args.option) (listed c.args.fieldnorm_reader.now) c.args.num_docs (next_of c.args.before) (entry_of c.args.entry) c.args.bytes.now total few b in omega (arith, room, short)))

pub returns-in_default-split_at_checked-clause-err : goal.returns-in_default-split_at_checked-clause-err
returns-in_default-split_at_checked-clause-err c =
    let short : length (drop (16 * c.args.entry.doc_width) c.args.bytes.now) < 16 * c.args.entry.count_width = search rules in
    (refl, λ total b. absurd (let few : c.args.num_docs ≤ 2 ^ 32 = omega arith in let room = block_room (record_option_of c.args.option) (listed c.args.fieldnorm_reader.now) c.args.num_docs (next_of c.args.before) (entry_of c.args.entry) c.args.bytes.now total few b in omega (arith, room, short, length-drop (16 * c.args.entry.doc_width) c.args.bytes.now)))
