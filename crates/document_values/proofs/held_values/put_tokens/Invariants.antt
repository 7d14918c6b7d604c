use Rattle.std.proofs.Common.{◌++◌, ◌≡◌, drop, flat_map, map}
use Rattle.common.specs.Token.{token_of}
use Rattle.document_values.specs.Held.{AreSizedTokens, token_bytes}
use Rattle.document_values.proofs.held_values.put_tokens.Given as goal

-- what is put so far, with the tokens that are left
abbrev pub invariant-loop-token : goal.invariant-loop-token
invariant-loop-token l =
    (l.out.items ++ flat_map token_bytes (map token_of (drop l.token-index l.tokens)) ≡ l.initial.out.items ++ flat_map token_bytes (map token_of l.tokens))
    × (AreSizedTokens (map token_of (drop l.token-index l.tokens)) → AreSizedTokens (map token_of l.tokens))
