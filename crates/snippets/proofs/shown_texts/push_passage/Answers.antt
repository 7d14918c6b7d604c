-- A passage without a piece, and one with some.
use Rattle.std.proofs.Common.{ap, map, string_bytes, ◌++◌, ◌∙◌}
use Rattle.std.proofs.lemmas.Result.{on_ok_weaker}
use Rattle.snippets.proofs.ShownTexts.{beginning_shown, passage_shown}
use Rattle.snippets.specs.Views.{piece_of}
use Rattle.snippets.proofs.shown_texts.push_passage.Goals as goal

pub returns-then-is_empty : goal.returns-then-is_empty
returns-then-is_empty c = on_ok_weaker c.push_beginning.result (λ e. e ∙ ap (λ t. string_bytes c.args.out.now ++ t) (beginning_shown c.args.passage.now (map piece_of c.args.pieces.now) _ c.is_empty.ensures c.if-is_empty.true)) c.push_beginning.ensures

pub returns : goal.returns
returns c = on_ok_weaker c.push_pieces.result (λ e. e ∙ ap (λ t. string_bytes c.args.out.now ++ t) (passage_shown c.args.passage.now (map piece_of c.args.pieces.now) _ c.is_empty.ensures c.if-is_empty.false)) c.push_pieces.ensures
