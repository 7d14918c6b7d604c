-- What is read is the text by its signs.
use Rattle.std.proofs.Common.{Err, List, ap, map, sym, ◌∙◌, ℕ}
use Rattle.query_text.specs.Reading.{read_plain}
use Rattle.query_text.specs.Refusals.{refusal_at}
use Rattle.query_text.specs.TypedMarks.{in_text}
use Rattle.query_text.proofs.query_reader.read_text.Goals as goal

pub returns-in-Ok : goal.returns-in-Ok
returns-in-Ok g c =
    let words = g.V.Vocabulary.queries c.args.words.now in
    let plain = c.deref-2.ensures.value ∙ c.in_ok-plain.ensures ∙ ap (map (λ (s : ℕ × ℕ). s.1)) (c.deref.ensures.value ∙ c.in_ok-signs.ensures) in
    ap (λ (t : List ℕ). in_text c.args.text.now (read_plain words t)) (sym plain) ∙ ap (in_text c.args.text.now) c.in-Ok.ensures

pub returns : goal.returns
returns g c = λ known.
    let words = g.V.Vocabulary.queries c.args.words.now in
    let plain = c.deref-2.ensures.value ∙ c.in_ok-plain.ensures ∙ ap (map (λ (s : ℕ × ℕ). s.1)) (c.deref.ensures.value ∙ c.in_ok-signs.ensures) in
    ap (λ (t : List ℕ). in_text c.args.text.now (read_plain words t)) (sym plain) ∙ ap (in_text c.args.text.now) (c.in-Err.ensures known) ∙ ap (λ (place : ℕ). Err (refusal_at place c.in-Err.refusal.reason)) (sym c.offset_in.ensures)
