-- The first piece, or none.
use Rattle.std.proofs.Common.{ap, append-nil, string_bytes, sym, ◌++◌, ◌∙◌}
use Rattle.std.proofs.lemmas.Result.{on_ok_weaker}
use Rattle.snippets.proofs.ShownTexts.{beginning_of, no_beginning}
use Rattle.snippets.proofs.shown_texts.push_beginning.Goals as goal

pub returns-in-Some : goal.returns-in-Some
returns-in-Some c = on_ok_weaker c.push_begun.result (λ e. e ∙ ap (λ t. string_bytes c.args.out.now ++ t) (beginning_of c.args.pieces.now c.in-Some.piece.now c.in-Some.ensures.value)) c.push_begun.ensures

pub returns-in-None : goal.returns-in-None
returns-in-None c = sym (append-nil (string_bytes c.args.out.now)) ∙ ap (λ t. string_bytes c.args.out.now ++ t) (no_beginning c.args.pieces.now c.in-None.ensures.value)
