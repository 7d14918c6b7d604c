-- The passage that is found.
use Rattle.std.proofs.Common.{length, map, sym}
use Rattle.std.proofs.lemmas.List.{length-map}
use Rattle.snippets.proofs.Shown.{lent}
use Rattle.snippets.specs.Views.{word_of}
use Rattle.snippets.proofs.snippet.snippet_of.Goals as goal

pub returns : goal.returns
returns g c = lent (g.A.Analyzer.analyze c.args.analyzer.now c.args.tokenizer.now) (map word_of c.args.words.now) c.args.text.now c.in_ok-pieces.pieces.items c.deref.result.now c.deref-2.result.now (length c.args.words.now) c.shown_start-start.result c.reach.result c.deref.ensures.value c.deref-2.ensures.value (sym (length-map c.args.words.now word_of)) c.in_ok-pieces.ensures c.shown_start-start.ensures.within c.shown_start-start.ensures.best c.reach.ensures.reach c.reach.ensures.within
