use Rattle.std.proofs.Common.{List, ap, arith, drop, length, length-drop, subst, sym, ◌%◌, ◌+◌, ◌<◌, ◌≡◌, ◌≤◌, ◌^◌, ℕ}
use Rattle.std.proofs.lemmas.Result.{err_from_is_err_and}
use Rattle.segment_postings.proofs.BlockChecks.{block_room}
use Rattle.segment_postings.proofs.PassedBlocks.{Passed, block_passed, block_refused, rest_refused}
use Rattle.codes.specs.UnpackedBlocks.{listed}
use Rattle.layouts.specs.Deltas.{next_of}
use Rattle.layouts.specs.SkipEntries.{SkipEntry}
use Rattle.options.specs.RecordOption.{record_option_of}
use Rattle.codes.specs.SkipBlocks.{Skips, block_size}
use Rattle.segment_postings.proofs.full_blocks_check.checked_blocks.Goals as goal
use Rattle.segment_postings.specs.Blocks.{entry_of}

pub returns-in_err-total-clause-err : goal.returns-in_err-total-clause-err
returns-in_err-total-clause-err c =
    let p = err_from_is_err_and c.from_residual.result c.from_residual.ensures.1 in
    let refused = c.in_err-total.ensures.err in
    let few : c.args.num_docs ≤ 2 ^ 32 = omega arith in
    rw (p.1, p.2) (refused.0, block_refused (record_option_of c.args.option) (listed c.args.fieldnorm_reader.now) c.args.num_docs c.args.skips.now.left (c.args.doc_freq % 128) c.args.bytes.now c.loop.before c.loop.skips.left c.loop.rest.now c.loop.total (entry_of c.first_entry-entry.result) few c.loop.invariant.passed c.first_entry-entry.ensures refused.1)

pub behind_block-rest-requires : goal.behind_block-rest-requires
behind_block-rest-requires c =
    let few : c.args.num_docs ≤ 2 ^ 32 = omega arith in
    let room = block_room (record_option_of c.args.option) (listed c.args.fieldnorm_reader.now) c.args.num_docs (next_of c.loop.before) (entry_of c.first_entry-entry.result) c.loop.rest.now c.in_ok-total.field-0 few c.in_ok-total.ensures.ok.0 in
    omega (arith, room)

pub loop-preserved : goal.loop-preserved
loop-preserved c =
    let few : c.args.num_docs ≤ 2 ^ 32 = omega arith in
    let option = record_option_of c.args.option in
    let ids = listed c.args.fieldnorm_reader.now in
    let e = entry_of c.first_entry-entry.result in
    let many = c.loop.invariant.many in
    let going = c.loop-test.true in
    let some : 0 < length c.loop.skips.left = omega arith in
    let moved : c.advance.new.self.left ≡ drop 1 c.loop.skips.left = ap (λ (s : Skips). s.left) (c.advance.ensures.block some) in
    let count = ap length moved in
    let read = c.in_ok-total.ensures.ok in
    let small = read.1 in
    let so_far = c.loop.invariant.few in
    let next = block_passed option ids c.args.num_docs c.args.skips.now.left (c.args.doc_freq % 128) c.args.bytes.now c.loop.before c.loop.skips.left c.loop.rest.now c.loop.total c.in_ok-total.field-0 e few c.loop.invariant.passed c.first_entry-entry.ensures read.0 in
    let P : List SkipEntry → Type 0 = λ es. Passed option ids c.args.num_docs c.args.skips.now.left (c.args.doc_freq % 128) c.args.bytes.now e.last_doc es (drop (block_size e) c.loop.rest.now) (c.loop.total + c.in_ok-total.field-0) in
    let Q : List ℕ → Type 0 = λ xs. Passed option ids c.args.num_docs c.args.skips.now.left (c.args.doc_freq % 128) c.args.bytes.now e.last_doc c.advance.new.self.left xs (c.loop.total + c.in_ok-total.field-0) in
    record {
      passed = subst Q (sym c.behind_block-rest.ensures) (subst P (sym moved) next);
      many = omega (arith, many, count, some, length-drop 1 c.loop.skips.left);
      few = omega (arith, small, so_far);
    }

pub returns-in_err-last-clause-err : goal.returns-in_err-last-clause-err
returns-in_err-last-clause-err c =
    let p = err_from_is_err_and c.from_residual-in_err-last.result c.from_residual-in_err-last.ensures.1 in
    let refused = c.in_err-last.ensures.err in
    let many = c.loop.invariant.many in
    let past = c.loop-test.false in
    let none : length c.loop.skips.left ≡ 0 = omega arith in
    rw (p.1, p.2) (refused.0, rest_refused (record_option_of c.args.option) (listed c.args.fieldnorm_reader.now) c.args.num_docs c.args.skips.now.left (c.args.doc_freq % 128) c.args.bytes.now c.loop.before c.loop.skips.left c.loop.rest.now c.loop.total c.loop.invariant.passed none (refused.1 (listed c.args.fieldnorm_reader.now)))
