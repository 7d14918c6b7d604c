use Rattle.std.proofs.Common.{◌∙◌}
use Rattle.english_stems.proofs.RuleOrder.{forms-end, forms-found, forms-more}
use Rattle.english_stems.proofs.stems.form_of.Goals as goal

pub returns-then-is_text : goal.returns-then-is_text
returns-then-is_text c =
    forms-found c.args.forms.now c.args.word.now c.loop-form.form-index _ c.is_text.result c.loop-form-test.true c.is_text.ensures c.if-is_text.true ∙ c.loop-form.invariant

pub loop-form-preserved : goal.loop-form-preserved
loop-form-preserved c =
    forms-more c.args.forms.now c.args.word.now c.loop-form.form-index _ c.is_text.result c.loop-form-test.true c.is_text.ensures c.if-is_text.false ∙ c.loop-form.invariant

pub returns : goal.returns
returns c = forms-end c.args.forms.now c.args.word.now c.loop-form.form-index c.loop-form-test.false ∙ c.loop-form.invariant
