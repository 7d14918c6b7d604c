-- A piece with a word that is looked for, and another.
use Rattle.std.proofs.Common.{ap, string_bytes, ◌++◌, ◌∙◌}
use Rattle.std.proofs.lemmas.Result.{on_ok_weaker}
use Rattle.snippets.proofs.ShownTexts.{marked_shown, plain_shown}
use Rattle.snippets.specs.Views.{piece_of}
use Rattle.snippets.proofs.shown_texts.push_piece.Goals as goal

pub returns-in-Some : goal.returns-in-Some
returns-in-Some c = on_ok_weaker c.push_marked.result (λ e. e ∙ ap (λ t. string_bytes c.args.out.now ++ t) (marked_shown (piece_of c.args.piece.now) _ c.behind_word.result.now c.in-Some.is c.behind_word.ensures)) c.push_marked.ensures

pub returns-in-None : goal.returns-in-None
returns-in-None c = on_ok_weaker c.push_text.result (λ e. e ∙ ap (λ t. string_bytes c.args.out.now ++ t) (plain_shown (piece_of c.args.piece.now) c.in-None.is)) c.push_text.ensures
