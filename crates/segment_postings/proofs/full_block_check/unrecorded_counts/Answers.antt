use Rattle.std.proofs.Common.{arith, length, refl, replicate, rules, sym, ap, ◌≡◌, ◌≢◌}
use Rattle.segment_postings.proofs.BlockChecks.{ones_block, sum_ones, unrecorded_entry}
use Rattle.definitions.proofs.Lists.{no_numbers as empty_list}
use Rattle.options.specs.RecordOption.{record_option_of}
use Rattle.segment_postings.proofs.full_block_check.unrecorded_counts.Goals as goal
use Rattle.segment_postings.specs.Blocks.{entry_of}

pub returns-clause-ok : goal.returns-clause-ok
returns-clause-ok c =
    let none : length c.args.bytes.now ≡ 0 = search rules in
    let empty = empty_list c.args.bytes.now none in
    ((replicate 128 1, ones_block (record_option_of c.args.option) (entry_of c.args.entry) c.args.bytes.now c.requires.unrecorded c.requires.long empty c.if-entry-ne0.false c.if-entry-ne1.false, sym (sum_ones 128)), omega arith)

pub returns-then-not-is_empty-clause-err : goal.returns-then-not-is_empty-clause-err
returns-then-not-is_empty-clause-err c =
    let other : length c.args.bytes.now ≢ 0 = search rules in
    (refl, λ counts b. other (ap length (unrecorded_entry (record_option_of c.args.option) (entry_of c.args.entry) counts c.args.bytes.now c.requires.unrecorded b).0))

pub returns-then-entry-ne0-clause-err : goal.returns-then-entry-ne0-clause-err
returns-then-entry-ne0-clause-err c = (refl, λ counts b. c.if-entry-ne0.true (unrecorded_entry (record_option_of c.args.option) (entry_of c.args.entry) counts c.args.bytes.now c.requires.unrecorded b).1)

pub returns-then-entry-ne1-clause-err : goal.returns-then-entry-ne1-clause-err
returns-then-entry-ne1-clause-err c = (refl, λ counts b. c.if-entry-ne1.true (unrecorded_entry (record_option_of c.args.option) (entry_of c.args.entry) counts c.args.bytes.now c.requires.unrecorded b).2)
