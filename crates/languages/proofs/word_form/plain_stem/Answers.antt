use Rattle.std.proofs.Common.{IfOk, ◌∙◌, ◌≡◌, subst}
use Rattle.english_stems.specs.Stems.{stem}
use Rattle.languages.proofs.word_form.plain_stem.Goals as goal

pub returns : goal.returns
returns c = subst (λ xs. IfOk c.stem.result (λ cs. cs.items ≡ stem xs)) (c.deref.ensures.value ∙ c.in_ok-plain.ensures) c.stem.ensures
