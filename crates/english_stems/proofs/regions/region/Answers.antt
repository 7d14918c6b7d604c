use Rattle.std.proofs.Common.{◌∙◌}
use Rattle.english_stems.proofs.WordLetters.{region-end, region-found, region-other, region-vowel}
use Rattle.english_stems.proofs.regions.region.Goals as goal
use Rattle.english_stems.proofs.regions.region.Goals.{else-behind_vowel-via-else-behind_vowel, else-behind_vowel-via-then-behind_vowel+else-not-vowel}

pub returns-then-not-vowel-clause-value : goal.returns-then-not-vowel-clause-value
returns-then-not-vowel-clause-value c =
    region-found c.args.word.now c.loop-i.behind_vowel c.is_vowel-vowel.result c.loop-i.i c.index-word-i.result c.loop-i-test.true c.index-word-i.is c.is_vowel-vowel.ensures c.if-behind_vowel.true c.if-not-vowel.true
    ∙ c.loop-i.invariant

pub loop-i-preserved : goal.loop-i-preserved
loop-i-preserved c =
    let w = c.args.word.now in
    elim c.else-behind_vowel.branch [
      | else-behind_vowel-via-then-behind_vowel+else-not-vowel b ↦
          region-vowel w c.loop-i.behind_vowel c.is_vowel-vowel.result c.loop-i.i c.index-word-i.result c.loop-i-test.true c.index-word-i.is c.is_vowel-vowel.ensures b.if-not-vowel.false
          ∙ c.loop-i.invariant
      | else-behind_vowel-via-else-behind_vowel b ↦
          region-other w c.loop-i.behind_vowel c.is_vowel-vowel.result c.loop-i.i c.index-word-i.result c.loop-i-test.true c.index-word-i.is c.is_vowel-vowel.ensures b.if-behind_vowel.false
          ∙ c.loop-i.invariant
    ]

pub returns-clause-value : goal.returns-clause-value
returns-clause-value c = region-end c.args.word.now c.loop-i.behind_vowel c.loop-i.i c.loop-i-test.false c.loop-i.auto.i-end ∙ c.loop-i.invariant
