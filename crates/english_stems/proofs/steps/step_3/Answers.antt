use Rattle.std.proofs.Common.{◌∙◌, ◌≡◌, OnOk, ap, codes, false, subst, sym}
use Rattle.std.proofs.lemmas.Bool.{cond-false}
use Rattle.english_stems.specs.Steps.{ative_rules, step_3_rules}
use Rattle.english_stems.specs.Suffixes.{by_rules, has_suffix}
use Rattle.english_stems.proofs.steps.step_3.Goals as goal

pub returns : goal.returns
returns c =
    let w = c.args.word.now.items in
    let r = c.args.regions in
    let other : has_suffix (codes "ative") w ≡ false = ap (has_suffix (codes "ative")) (sym c.deref.ensures.value) ∙ sym c.has_suffix.ensures ∙ c.if-has_suffix.false in
    subst (λ text. OnOk c.by_rules-2.result (c.by_rules-2.new.word.items ≡ text))
    (sym (cond-false (has_suffix (codes "ative") w) (by_rules r.second ative_rules w) (by_rules r.first step_3_rules w) other)) c.by_rules-2.ensures
