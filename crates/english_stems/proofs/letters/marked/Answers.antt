use Rattle.std.proofs.Common.{◌∙◌, sym}
use Rattle.english_stems.proofs.WordLetters.{marked-end, marked-more}
use Rattle.english_stems.proofs.letters.marked.Goals as goal

pub loop-c-preserved : goal.loop-c-preserved
loop-c-preserved c =
    marked-more c.loop-c.letters.items c.push.new.self.items c.args.word.now c.loop-c.behind c.is_vowel-behind.result c.loop-c.c-index c.c-item.result c.marked_letter-letter.result
    c.loop-c-test.true c.c-item.is c.marked_letter-letter.ensures c.is_vowel-behind.ensures c.in_ok-push.ensures.items
    ∙ c.loop-c.invariant

pub returns : goal.returns
returns c = sym (marked-end c.loop-c.letters.items c.args.word.now c.loop-c.behind c.loop-c.c-index c.loop-c-test.false) ∙ c.loop-c.invariant
