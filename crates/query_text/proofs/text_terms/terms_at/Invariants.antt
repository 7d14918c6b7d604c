-- The terms so far, with those of the tokens that are left, are all.
use Rattle.std.proofs.Common.{drop, map, ◌++◌, ◌≡◌}
use Rattle.common.specs.Token.{token_of}
use Rattle.query_text.specs.Answers.{terms_at}
use Rattle.query_text.proofs.text_terms.terms_at.Given as goal

abbrev pub invariant-loop-token : goal.invariant-loop-token
invariant-loop-token l = l.terms.items ++ terms_at l.field (map token_of (drop l.token-index l.tokens)) ≡ terms_at l.field (map token_of l.tokens)
