use Rattle.std.proofs.Common.{◌≡◌, ◌≤◌, inr, ap, sym, subst, ◌∙◌, length}
use Rattle.std.specs.Str.{IsUtf8}
use Rattle.definitions.specs.Lines.{max_line_len}
use Rattle.serve_lines.specs.Reading.{IsKept}
use Rattle.serve_lines.proofs.LineFacts.{line_refusal-text, line_refusal-bytes}
use Rattle.serve_lines.proofs.line_buffer.LineBuffer.text.Goals as goal

pub returns-in-Ok-clause-ok : goal.returns-in-Ok-clause-ok
returns-in-Ok-clause-ok c seen held =
    let same : c.deref.result.now ≡ seen =
    c.deref.ensures.value ∙ subst (λ state. IsKept state c.args.self.now.bytes.items seen) c.in-Whole.is held in
    let within : length seen ≤ max_line_len =
    subst (λ n. n ≤ max_line_len) (sym c.deref.ensures.len ∙ ap length same) c.args.self.now.within in
    (c.in-Ok.ensures.cases.0 ∙ same, line_refusal-text seen within (subst IsUtf8 same c.in-Ok.ensures.cases.1))

pub returns-in-Err-clause-err : goal.returns-in-Err-clause-err
returns-in-Err-clause-err c seen held =
    let same : c.deref.result.now ≡ seen =
    c.deref.ensures.value ∙ subst (λ state. IsKept state c.args.self.now.bytes.items seen) c.in-Whole.is held in
    let within : length seen ≤ max_line_len =
    subst (λ n. n ≤ max_line_len) (sym c.deref.ensures.len ∙ ap length same) c.args.self.now.within in
    inr (line_refusal-bytes seen within (λ text. c.in-Err.ensures.cases.0 (subst IsUtf8 (sym same) text)))
