-- The first word that is found is among those that are left, or there is none.
use Rattle.std.proofs.Common.{drop, map, ◌≡◌}
use Rattle.common.specs.Token.{token_of}
use Rattle.snippets.specs.Snippets.{found_from}
use Rattle.snippets.specs.Views.{word_of}
use Rattle.snippets.proofs.words.first_word.Given as goal

abbrev pub invariant-loop-number : goal.invariant-loop-number
invariant-loop-number l = found_from l.number (map word_of (drop l.number l.words)) (map token_of l.tokens) ≡ found_from 0 (map word_of l.words) (map token_of l.tokens)
