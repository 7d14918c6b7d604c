use Rattle.std.proofs.Common.{◌++◌, ◌≡◌, length, map, option_map}
use Rattle.common.specs.Token.{token_of}
use Rattle.languages.specs.Asked.{asked, asked_behind}
use Rattle.languages.proofs.asked.pairs_alone.Given as goal

-- the tokens so far, and what is kept of those that are left
abbrev pub invariant-loop-token : goal.invariant-loop-token
invariant-loop-token l = map token_of l.kept.items ++ asked_behind (option_map (λ t. token_of t.now) l.before) (map token_of l.rest) ≡ asked (map token_of l.tokens)

abbrev pub decreases-loop-token : goal.decreases-loop-token
decreases-loop-token l = length l.rest
