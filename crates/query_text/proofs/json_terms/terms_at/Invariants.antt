-- The terms so far, with those of the tokens that are left, are all.
use Rattle.std.proofs.Common.{drop, map, ◌++◌, ◌≡◌}
use Rattle.common.specs.Token.{token_of}
use Rattle.query_text.specs.Answers.{json_terms_at}
use Rattle.query_text.specs.JsonPaths.{json_path_of}
use Rattle.query_text.proofs.json_terms.terms_at.Given as goal

abbrev pub invariant-loop-token : goal.invariant-loop-token
invariant-loop-token l = l.terms.items ++ json_terms_at (json_path_of l.json_path) (map token_of (drop l.token-index l.tokens)) ≡ json_terms_at (json_path_of l.json_path) (map token_of l.tokens)
