-- There are as many pieces as the definition has.
use Rattle.std.proofs.Common.{ap, string_bytes, sym, ◌++◌, ◌∙◌}
use Rattle.std.proofs.lemmas.List.{length-map}
use Rattle.std.proofs.lemmas.Result.{on_ok_weaker}
use Rattle.snippets.specs.ShownTexts.{shown_behind}
use Rattle.snippets.specs.Views.{piece_of}
use Rattle.snippets.proofs.shown_texts.push_behind.Goals as goal

pub returns : goal.returns
returns c = on_ok_weaker c.push_dots.result (λ e. e ∙ ap (λ n. string_bytes c.args.out.now ++ shown_behind c.args.end n) (sym (length-map c.args.pieces.now piece_of))) c.push_dots.ensures
