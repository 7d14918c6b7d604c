-- Before the first byte.
use Rattle.std.proofs.Common.{ap, map, [], ◌++◌, List, ℕ, Bor, le_refl}
use Rattle.std.proofs.lemmas.Str.{IsCharBoundary-start}
use Rattle.snippets.specs.Cutting.{cut_from}
use Rattle.snippets.proofs.text_pieces.cut.Goals as goal

pub loop-offset-init : goal.loop-offset-init
loop-offset-init c = record {
  whole = ap (λ (xs : List (Bor (List ℕ))). map (λ p. p.now) xs ++ cut_from [] c.args.text.now) c.new-parts.ensures.items;
  begun = le_refl 0;
  boundary = IsCharBoundary-start c.args.text.now c.utf8.text;
}
