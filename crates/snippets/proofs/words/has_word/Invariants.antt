-- The tokens so far aren't the word.
use Rattle.std.proofs.Common.{drop, map, ◌≡◌}
use Rattle.common.specs.Token.{token_of}
use Rattle.snippets.specs.Snippets.{has_word}
use Rattle.snippets.specs.Views.{word_of}
use Rattle.snippets.proofs.words.has_word.Given as goal

abbrev pub invariant-loop-token : goal.invariant-loop-token
invariant-loop-token l = has_word (word_of l.word) (map token_of (drop l.token-index l.tokens)) ≡ has_word (word_of l.word) (map token_of l.tokens)
