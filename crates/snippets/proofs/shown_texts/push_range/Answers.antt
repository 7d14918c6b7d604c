-- The range is that of the definition.
use Rattle.std.proofs.Common.{ap, map, string_bytes, ◌++◌, ◌∙◌}
use Rattle.std.proofs.lemmas.Result.{on_ok_weaker}
use Rattle.snippets.specs.ShownTexts.{shown_passage}
use Rattle.snippets.specs.Views.{piece_of}
use Rattle.snippets.proofs.shown_texts.push_range.Goals as goal

pub returns : goal.returns
returns c = on_ok_weaker c.push_passage.result (λ e. e ∙ ap (λ qs. string_bytes c.args.out.now ++ shown_passage qs (map piece_of c.args.pieces.now)) c.range_of.ensures) c.push_passage.ensures
