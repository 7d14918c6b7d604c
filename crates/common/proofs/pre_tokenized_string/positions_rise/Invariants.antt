use Rattle.std.proofs.Common.{◌≡◌, drop, map}
use Rattle.common.specs.Token.{positions_rise, token_of}
use Rattle.common.proofs.pre_tokenized_string.positions_rise.Given as goal

-- what is left decides
abbrev pub invariant-loop-token : goal.invariant-loop-token
invariant-loop-token l = positions_rise l.least (map token_of (drop l.token-index l.tokens)) ≡ positions_rise 0 (map token_of l.tokens)
