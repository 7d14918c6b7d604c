-- The pieces, as they are lent.
use Rattle.std.proofs.Common.{IfOk, map, string_bytes, subst, ◌≡◌}
use Rattle.snippets.specs.ShownTexts as definitions
use Rattle.snippets.specs.Views.{piece_of}
use Rattle.snippets.proofs.shown_texts.shown_snippet.Goals as goal

pub returns : goal.returns
returns c = subst (λ ps. IfOk c.shown_pieces.result (λ text. string_bytes text ≡ definitions.shown_snippet (map piece_of ps) c.args.snippet.now.start c.args.snippet.now.end)) c.deref.ensures.value c.shown_pieces.ensures
