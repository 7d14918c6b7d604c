-- What is left behind the tokens so far goes on with the others.
use Rattle.std.proofs.Common.{drop, map, ◌≡◌}
use Rattle.common.specs.Token.{token_of}
use Rattle.snippets.specs.Snippets.{behind}
use Rattle.snippets.proofs.snippet.behind.Given as goal

abbrev pub invariant-loop-token : goal.invariant-loop-token
invariant-loop-token l = behind (map token_of l.rest) (map token_of (drop l.token-index l.first)) ≡ behind (map token_of l.tokens) (map token_of l.first)
