-- What is left of the tokens is of the parts that are left, or isn't.
use Rattle.std.proofs.Common.{drop, map, ◌≡◌}
use Rattle.common.specs.Token.{token_of}
use Rattle.snippets.specs.Snippets.{are_tokens_of}
use Rattle.snippets.proofs.snippet.have_tokens.Given as goal

abbrev pub invariant-loop-part : goal.invariant-loop-part
invariant-loop-part g l =
    let analyze = g.A.Analyzer.analyze l.analyzer l.tokenizer in
    are_tokens_of analyze (map (λ p. p.now) (drop l.part-index l.parts)) (map token_of l.rest) ≡ are_tokens_of analyze (map (λ p. p.now) l.parts) (map token_of l.tokens)
