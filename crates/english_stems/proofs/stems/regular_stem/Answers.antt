use Rattle.std.proofs.Common.{◌∙◌, ◌≡◌, IfOk, ap, ap₂, subst, true}
use Rattle.english_stems.specs.Stems.{steps, without_apostrophe}
use Rattle.english_stems.specs.Letters.{marked, unmarked}
use Rattle.english_stems.specs.Regions.{regions}
use Rattle.english_stems.proofs.stems.regular_stem.Goals as goal

pub returns : goal.returns
returns c =
    let letters = marked true (without_apostrophe c.args.word.now) in
    let are : c.in_ok-letters.letters.items ≡ letters = c.in_ok-letters.ensures ∙ ap (marked true) c.without_apostrophe.ensures in
    let in_regions : c.of_word-regions.result ≡ regions letters = c.of_word-regions.ensures ∙ ap regions (c.deref.ensures.value ∙ are) in
    let is : c.deref-2.result.now ≡ steps (regions letters) letters = c.deref-2.ensures.value ∙ c.in_ok-steps.ensures ∙ ap₂ steps in_regions are in
    subst (λ text. IfOk c.unmarked.result (λ cs. cs.items ≡ text)) (ap unmarked is) c.unmarked.ensures
