use Rattle.std.proofs.Common.{◌∙◌, ◌≡◌, OnOk, ap, false, subst, sym}
use Rattle.std.proofs.lemmas.Bool.{cond-false}
use Rattle.english_stems.specs.Stems.{is_final, later_steps}
use Rattle.english_stems.specs.Steps.{step_0, step_1a}
use Rattle.english_stems.proofs.stems.steps.Goals as goal

pub returns : goal.returns
returns c =
    let singular = step_1a (step_0 c.args.word.now.items) in
    let is : c.step_1a.new.word.items ≡ singular = c.step_1a.ensures ∙ ap step_1a c.in_ok-step_0.ensures in
    let more : is_final singular ≡ false = ap is_final (sym (c.deref.ensures.value ∙ is)) ∙ sym c.is_final.ensures ∙ c.if-is_final.false in
    subst (λ text. OnOk c.later_steps.result (c.later_steps.new.word.items ≡ text))
    (ap (later_steps c.args.regions) is ∙ sym (cond-false (is_final singular) singular (later_steps c.args.regions singular) more)) c.later_steps.ensures
