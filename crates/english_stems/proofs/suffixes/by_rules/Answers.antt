use Rattle.std.proofs.Common.{◌∙◌, ◌≡◌, OnOk, subst}
use Rattle.english_stems.proofs.RuleOrder.{rules-end, rules-found, rules-more}
use Rattle.english_stems.proofs.suffixes.by_rules.Goals as goal

pub returns-then-has_suffix : goal.returns-then-has_suffix
returns-then-has_suffix c =
    let w = c.loop-rule.word.items in
    let found = rules-found c.args.start c.args.rules.now w c.deref.result.now c.loop-rule.rule-index _ c.has_suffix.result c.loop-rule-test.true c.deref.ensures.value c.has_suffix.ensures c.if-has_suffix.true in
    subst (λ text. OnOk c.replace.result (c.replace.new.word.items ≡ text)) (found ∙ c.loop-rule.invariant) c.replace.ensures

pub loop-rule-preserved : goal.loop-rule-preserved
loop-rule-preserved c =
    let w = c.loop-rule.word.items in
    rules-more c.args.start c.args.rules.now w c.deref.result.now c.loop-rule.rule-index _ c.has_suffix.result c.loop-rule-test.true c.deref.ensures.value c.has_suffix.ensures c.if-has_suffix.false
    ∙ c.loop-rule.invariant

pub returns : goal.returns
returns c = rules-end c.args.start c.args.rules.now c.loop-rule.word.items c.loop-rule.rule-index c.loop-rule-test.false ∙ c.loop-rule.invariant
