use Rattle.std.proofs.Common.{◌++◌, ◌+◌, ◌∙◌, ap₂, drop, sym}
use Rattle.languages.specs.Plain.{without_accents}
use Rattle.languages.proofs.PlainWords.{no-more, one-more}
use Rattle.languages.proofs.plain.without_accents.Goals as goal

pub loop-c-preserved : goal.loop-c-preserved
loop-c-preserved c =
    let cs = c.args.chars.now in
    ap₂ (λ kept loses. kept ++ without_accents loses (drop (c.loop-c.c-index + 1) cs)) c.in_ok-push_bare.ensures c.loses_behind-loses.ensures
    ∙ one-more c.loop-c.kept.items cs c.loop-c.loses c.loop-c.c-index c.c-item.result c.loop-c-test.true c.c-item.is
    ∙ c.loop-c.invariant

pub returns : goal.returns
returns c = sym (no-more c.loop-c.kept.items c.args.chars.now c.loop-c.loses c.loop-c.c-index c.loop-c-test.false) ∙ c.loop-c.invariant
