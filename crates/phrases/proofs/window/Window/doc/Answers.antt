use Rattle.std.proofs.Common.{ap, arith, get_or, length, sym, ◌<◌, ◌∙◌}
use Rattle.phrases.specs.Rows.{docs_of}
use Rattle.phrases.proofs.WindowLaws.{left-first}
use Rattle.phrases.proofs.window.Window.doc.Goals as goal

pub returns-then-self-len : goal.returns-then-self-len
returns-then-self-len c =
    let w = c.args.self.now in
    let len = c.len.ensures in
    let test = c.if-self-len.true in
    let l : w.row < length w.rows.items = omega (arith, len, test) in
    c.doc_at.ensures ∙ (ap (λ rows. get_or (docs_of rows) w.row 0) c.deref.ensures.value ∙ sym (left-first w.places.items w.rows.items w.row l))
