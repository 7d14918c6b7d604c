-- Last zeros are left away, and then all digits are written.
use Rattle.std.proofs.Common.{ap, append_assoc, arith, codes, string_bytes, sym, ◌++◌, ◌∙◌}
use Rattle.std.proofs.lemmas.Result.{on_ok_weaker}
use Rattle.definitions.specs.Dates.{padded, without_last_zeros}
use Rattle.values_json.proofs.PaddedTexts.{fraction_end, fraction_step}
use Rattle.values_json.proofs.date_texts.push_fraction.Goals as goal

pub loop-digits-preserved : goal.loop-digits-preserved
loop-digits-preserved c =
    let l = c.loop-digits in
    let i = l.invariant in
    fraction_step l.width l.digits (without_last_zeros (padded 9 c.args.nanos)) i.0 i.1 i.2 i.4 (omega arith) c.loop-digits-test.true

pub returns : goal.returns
returns c =
    let l = c.loop-digits in
    let i = l.invariant in
    let before = string_bytes c.args.text.now in
    let done = fraction_end l.width l.digits c.args.nanos i.0 i.1 i.3 (omega arith) c.loop-digits-test.false c.if-nanos-eq0.false in
    on_ok_weaker c.push_padded.result (λ e.
    e
    ∙ ap (λ t. t ++ padded l.width l.digits) c.in_ok-push_str.ensures.bytes
    ∙ append_assoc before (codes ".") (padded l.width l.digits)
    ∙ ap (λ t. before ++ t) (sym done)) c.push_padded.ensures
