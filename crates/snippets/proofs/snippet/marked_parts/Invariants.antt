-- The pieces so far, with those of the parts that are left, are all.
use Rattle.std.proofs.Common.{drop, map, ◌++◌, ◌≡◌}
use Rattle.snippets.specs.Snippets.{marked, with_words}
use Rattle.snippets.specs.Views.{piece_of, word_of}
use Rattle.snippets.proofs.snippet.marked_parts.Given as goal

abbrev pub invariant-loop-part : goal.invariant-loop-part
invariant-loop-part g l =
    let mark = marked (g.A.Analyzer.analyze l.analyzer l.tokenizer) (map word_of l.words) in
    map piece_of l.pieces.items ++ map mark (with_words (map (λ p. p.now) (drop l.part-index l.parts))) ≡ map mark (with_words (map (λ p. p.now) l.parts))
