use Rattle.std.proofs.Common.{[], List, arith, length, length-append, ◌+◌, ◌++◌, ◌∙◌, ◌∷◌, ◌≡◌, ℕ}
use Rattle.definitions.proofs.Lists.{within_same as kept}
use Rattle.scorer_cases.proofs.written_terms.write_docs.Goals as goal

more : (docs : List ℕ) (doc : ℕ) {index : ℕ} → length docs ≡ index → length (docs ++ doc ∷ []) ≡ index + 1
more docs doc many = omega (arith, many, length-append docs (doc ∷ []))

pub write_doc-requires-clause-kept : goal.write_doc-requires-clause-kept
write_doc-requires-clause-kept c = kept _ c.args.serializer.now.norms c.args.num_docs _ c.loop-index.invariant.2 c.requires.lengths c.if-doc-num_docs.false

pub loop-index-preserved : goal.loop-index-preserved
loop-index-preserved c =
    let so_far = c.loop-index.invariant in
    let docs = so_far.0.0 in
    let counts = so_far.0.1 in
    let same = c.in_ok-write_doc.ensures.same in
    let next = same.3 in
    let many = so_far.0.3 in
    ((_, _, c.in_ok-write_doc.ensures.written docs counts so_far.0.2, more docs _ many), omega (arith, next), same.2 ∙ so_far.2, same.1 ∙ so_far.3)

pub returns-clause-written : goal.returns-clause-written
returns-clause-written c =
    let so_far = c.loop-index.invariant in
    let done = c.loop-index-test.false in
    let end = c.loop-index.auto.index-end in
    let many = so_far.0.3 in
    (so_far.0.0, so_far.0.1, so_far.0.2, omega (arith, many, done, end))
