-- The digits before the last, and the last.
use Rattle.std.proofs.Common.{[], ap, ap₂, append_assoc, arith, string_bytes, sym, ◌%◌, ◌++◌, ◌+◌, ◌-◌, ◌/◌, ◌∙◌, ◌∷◌}
use Rattle.std.specs.Char.{encode_utf8}
use Rattle.std.proofs.lemmas.Result.{on_ok_weaker}
use Rattle.definitions.specs.Dates.{padded}
use Rattle.values_json.proofs.PaddedTexts.{last_digit, lone_digit, pushed}
use Rattle.values_json.proofs.padded_numbers.+push_padded.Goals.{else-width-gt1, then-width-gt1+in_ok-push_padded}
use Rattle.values_json.proofs.padded_numbers.+push_padded.Goals as goal

pub returns : goal.returns
returns t c =
    let n = c.args.n in
    let width = c.args.width in
    let before = string_bytes c.args.text.now in
    let last = (48 + n % 10) ∷ [] in
    let digit = c.push.ensures.ascii (omega (arith, c.from.ensures)) ∙ ap (λ b. b ∷ []) c.from.ensures in
    let all = pushed c.push.result (string_bytes c.push.new.self) (string_bytes c.if-width-gt1.text) (encode_utf8 c.from.result) c.push.ensures.bytes in
    elim c.if-width-gt1.branch [
      | then-width-gt1+in_ok-push_padded w ↦ on_ok_weaker c.push.result (λ e.
          e
          ∙ ap₂ (λ s d. string_bytes s ++ d) w.text-is digit
          ∙ ap (λ s. s ++ last) w.in_ok-push_padded.ensures
          ∙ append_assoc before (padded (width - 1) (n / 10)) last
          ∙ ap (λ ds. before ++ ds) (sym (last_digit width n (omega arith) (omega arith)))) all
      | else-width-gt1 w ↦ on_ok_weaker c.push.result (λ e.
          e
          ∙ ap₂ (λ s d. string_bytes s ++ d) w.text-is digit
          ∙ ap (λ ds. before ++ ds) (sym (lone_digit width n (omega arith) (omega arith) c.requires.fits))) all
    ]
