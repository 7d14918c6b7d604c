use Rattle.std.proofs.Common.{[], arith, length-append, ◌%◌, ◌+◌, ◌++◌, ◌/◌, ◌∙◌, ◌∷◌}
use Rattle.definitions.proofs.Lists.{within_same as kept}
use Rattle.postings_writer.specs.TermWriting.{recorded_count}
use Rattle.bench.proofs.spread_terms.write_docs.Goals as goal

pub write_doc-requires-clause-kept : goal.write_doc-requires-clause-kept
write_doc-requires-clause-kept c = kept _ c.args.serializer.now.norms c.args.num_lengths _ c.loop-index.invariant.2 c.requires.lengths c.if-doc-num_lengths.false

pub loop-index-preserved : goal.loop-index-preserved
loop-index-preserved c =
    let so_far = c.loop-index.invariant in
    let docs = so_far.0.0 in
    let counts = so_far.0.1 in
    let doc = c.loop-index.next + c.next_state-state.result / 256 % 99 in
    let count = 1 + c.next_state-state.result / 1048576 % 4 in
    let same = c.in_ok-write_doc.ensures.same in
    let next = same.3 in
    let many = so_far.0.3 in
    let far = so_far.4 in
    ((docs ++ doc ∷ [], counts ++ recorded_count c.loop-index.serializer.option count ∷ [], c.in_ok-write_doc.ensures.written docs counts so_far.0.2, omega (arith, many, length-append docs (doc ∷ []))), omega (arith, next), same.2 ∙ so_far.2, same.1 ∙ so_far.3, omega (arith, far))

pub returns-clause-written : goal.returns-clause-written
returns-clause-written c =
    let so_far = c.loop-index.invariant in
    let done = c.loop-index-test.false in
    let end = c.loop-index.auto.index-end in
    let many = so_far.0.3 in
    (so_far.0.0, so_far.0.1, so_far.0.2, omega (arith, many, done, end))
