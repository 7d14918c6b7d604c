use Rattle.std.proofs.Common.{ap, arith, drop, length, sum, take, ◌*◌, ◌+◌, ◌<◌, ◌∙◌}
use Rattle.segment_postings.proofs.Passing.{all_passed, none_passed, one_passed}
use Rattle.segment_postings.specs.Reading.{counts_at, docs_at}
use Rattle.codes.proofs.SkipReading.{passes}
use Rattle.codes.specs.SkipBlocks.{last_doc}
use Rattle.segment_postings.proofs.block_segment_postings.pass_blocks.Goals as goal

pub loop-last-init : goal.loop-last-init
loop-last-init c = record {
  at = c.last_doc_in_block-last.ensures;
  passing = λ reads sums bytes stands. (0, none_passed reads sums c.args.target c.args.before c.args.skips.now bytes stands);
}

pub loop-last-preserved : goal.loop-last-preserved
loop-last-preserved c =
    let at = c.loop-last.invariant.at in
    let more = c.loop-last-test.true in
    let few = c.requires in
    let early : last_doc c.loop-last.skips.left < c.args.target = omega (arith, at, more) in
    record {
      at = c.last_doc_in_block-last-in-loop-last.ensures;
      passing = λ reads sums bytes stands.
          (let passed = c.loop-last.invariant.passing reads sums bytes stands in
          (passed.0 + 1, one_passed reads sums c.args.target c.args.before c.args.skips.now c.loop-last.before c.loop-last.skips c.loop-last.last c.advance.new.self bytes passed.0 passed.1 early few at c.advance.ensures.block));
    }

pub loop-last-smaller : goal.loop-last-smaller
loop-last-smaller c =
    let at = c.loop-last.invariant.at in
    let more = c.loop-last-test.true in
    let pass = passes c.loop-last.skips c.args.target (omega (arith, at, more)) c.requires in
    let is = ap (λ s. length s.left) (c.advance.ensures.block pass.some) in
    let fewer = pass.fewer in
    omega (arith, is, fewer)

pub returns-clause-passed : goal.returns-clause-passed
returns-clause-passed c = λ reads sums bytes stands.
    (let passed = c.loop-last.invariant.passing reads sums bytes stands in
    let at = c.loop-last.invariant.at in
    let late = c.loop-last-test.false in
    let all = all_passed reads sums c.args.target c.args.before c.args.skips.now c.loop-last.before c.loop-last.skips bytes passed.0 passed.1 (omega (arith, at, late)) in
    record {
      stands = passed.1.stands;
      docs = passed.1.docs ∙ ap (λ k. drop (128 * k) (docs_at c.args.before c.args.skips.now bytes)) all.0;
      counts = passed.1.counts ∙ ap (λ k. drop (128 * k) (counts_at reads c.args.before c.args.skips.now bytes)) all.0;
      entries = passed.1.entries ∙ ap (λ k. drop k c.args.skips.now.left) all.0;
      index = all.1;
      offset = λ yes. (let it = passed.1.offset yes in let same = ap (λ k. sum (take (128 * k) (counts_at reads c.args.before c.args.skips.now bytes))) all.0 in omega (arith, it, same));
    })

pub returns-clause-late : goal.returns-clause-late
returns-clause-late c = (let at = c.loop-last.invariant.at in let late = c.loop-last-test.false in omega (arith, at, late))
