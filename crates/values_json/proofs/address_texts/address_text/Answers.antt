-- A mapped address is a quad, and another is groups.
use Rattle.std.proofs.Common.{eq-eqb, ne_eqb, sym, ◌%◌, ◌/◌, ◌==◌, ◌^◌, ◌∙◌}
use Rattle.std.proofs.lemmas.Bool.{cond-false, cond-true}
use Rattle.std.proofs.lemmas.Result.{IfOk-weaker}
use Rattle.definitions.specs.Addresses.{address_text, groups_text, quad_text}
use Rattle.values_json.proofs.address_texts.address_text.Goals as goal

pub returns-then-address-eq-MAPPED : goal.returns-then-address-eq-MAPPED
unfolding address_text
returns-then-address-eq-MAPPED c =
    let n = c.args.address in
    let is = cond-true (n / 2 ^ 32 == 0xffff) (quad_text (n % 2 ^ 32)) (groups_text n) (eq-eqb (n / 2 ^ 32) 0xffff c.if-address-eq-MAPPED.true) in
    IfOk-weaker c.quad_text.result _ _ (λ text e. e ∙ sym is) c.quad_text.ensures

pub returns : goal.returns
unfolding address_text
returns c =
    let n = c.args.address in
    let is = cond-false (n / 2 ^ 32 == 0xffff) (quad_text (n % 2 ^ 32)) (groups_text n) (ne_eqb (n / 2 ^ 32) 0xffff c.if-address-eq-MAPPED.false) in
    IfOk-weaker c.groups_text.result _ _ (λ text e. e ∙ sym is) c.groups_text.ensures
