use Rattle.std.proofs.Common.{◌++◌, ◌≡◌, map, option_map}
use Rattle.common.specs.Token.{token_of}
use Rattle.layouts.specs.DocumentReading.{take_tokens, take_tokens_from}
use Rattle.document_values.proofs.compact_tokens.own_tokens.Given as goal

-- what is copied so far, with the tokens that are left
abbrev pub invariant-loop-left : goal.invariant-loop-left
invariant-loop-left l = option_map (λ p. map token_of l.tokens.items ++ p.0) (take_tokens_from l.least l.left l.rest) ≡ option_map (λ p. p.0) (take_tokens l.fn.bytes)

abbrev pub decreases-loop-left : goal.decreases-loop-left
decreases-loop-left l = l.left
