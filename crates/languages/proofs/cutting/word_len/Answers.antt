use Rattle.std.proofs.Common.{◌∙◌, ◌∷◌, ap, arith, drop, take}
use Rattle.languages.specs.Words.{run_words}
use Rattle.languages.proofs.RunWords.{first-writing, word-begun, word-last, word-more, word-next}
use Rattle.languages.proofs.cutting.word_len.Goals as goal

pub loop-len-init : goal.loop-len-init
loop-len-init c = record {
  words = word-begun c.of_char-first.result c.args.run.now c.index-run-0.result c.requires c.index-run-0.is c.of_char-first.ensures;
  some = omega arith;
  within = omega arith;
}

pub loop-len-preserved : goal.loop-len-preserved
loop-len-preserved c = record {
  words =
      c.loop-len.invariant.words
      ∙ word-more c.of_char-first.result c.args.run.now c.loop-len.len c.index-run-len.result c.goes_on.result c.loop-len-test.true c.index-run-len.is c.goes_on.ensures c.if-goes_on.true;
  some = omega arith;
  within = omega arith;
}

pub returns-else-goes_on-clause-words : goal.returns-else-goes_on-clause-words
returns-else-goes_on-clause-words c =
    let run = c.args.run.now in
    c.loop-len.invariant.words
    ∙ word-next c.of_char-first.result run c.loop-len.len c.index-run-len.result c.goes_on.result c.loop-len-test.true c.index-run-len.is c.goes_on.ensures c.if-goes_on.false
    ∙ ap (λ w. (w, take c.loop-len.len run) ∷ run_words (drop c.loop-len.len run)) (first-writing c.of_char-first.result run c.index-run-0.result c.requires c.index-run-0.is c.of_char-first.ensures)

pub returns-after-loop-len-clause-words : goal.returns-after-loop-len-clause-words
returns-after-loop-len-clause-words c =
    let run = c.args.run.now in
    c.loop-len.invariant.words
    ∙ word-last c.of_char-first.result run c.loop-len.len c.loop-len-test.false
    ∙ ap (λ w. (w, take c.loop-len.len run) ∷ run_words (drop c.loop-len.len run)) (first-writing c.of_char-first.result run c.index-run-0.result c.requires c.index-run-0.is c.of_char-first.ensures)
