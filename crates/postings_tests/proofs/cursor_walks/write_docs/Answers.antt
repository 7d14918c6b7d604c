use Rattle.std.proofs.Common.{[], ◌*◌, ◌+◌, ◌++◌, ◌∙◌, ◌∷◌, arith, length-append}
use Rattle.postings_writer.specs.TermWriting.{recorded_count}
use Rattle.postings_tests.proofs.TermEntries.{all_below_and}
use Rattle.segment_postings.proofs.BlockChecks.{wider as all_below}
use Rattle.postings_tests.proofs.cursor_walks.write_docs.Goals as goal

pub loop-index-preserved : goal.loop-index-preserved
loop-index-preserved c =
    let so_far = c.loop-index.invariant in
    let docs = so_far.0.0 in
    let counts = so_far.0.1 in
    let doc = 3 * c.loop-index.index in
    let same = c.in_ok-write_doc.ensures.same in
    let next = same.3 in
    let many = so_far.0.3 in
    ((docs ++ doc ∷ [], counts ++ recorded_count c.loop-index.serializer.option c.count_at.result ∷ [], c.in_ok-write_doc.ensures.written docs counts so_far.0.2, omega (arith, many, length-append docs (doc ∷ [])), all_below_and (3 * (c.loop-index.index + 1)) doc docs (all_below doc (3 * (c.loop-index.index + 1)) docs (omega arith) so_far.0.4) (omega arith)), omega (arith, next), same.2 ∙ so_far.2, same.1 ∙ so_far.3)

pub returns-clause-written : goal.returns-clause-written
returns-clause-written c =
    let so_far = c.loop-index.invariant in
    let done = c.loop-index-test.false in
    let end = c.loop-index.auto.index-end in
    let many = so_far.0.3 in
    (so_far.0.0, so_far.0.1, so_far.0.2, omega (arith, many, done, end), all_below (3 * c.loop-index.index) (3 * c.args.num_docs) so_far.0.0 (omega (arith, done, end)) so_far.0.4)
