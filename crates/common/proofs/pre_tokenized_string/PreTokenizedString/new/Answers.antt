use Rattle.std.proofs.Common.{false, map, refl, rules, sym, true, true≢false, ◌∙◌, ◌≡◌}
use Rattle.common.specs.Token.{positions_rise, token_of}
use Rattle.common.proofs.RisingTokens.{are_tokens, they_rise}
use Rattle.common.proofs.pre_tokenized_string.PreTokenizedString.new.Goals as goal

pub returns-then-not-positions_rise-clause-err : goal.returns-then-not-positions_rise-clause-err
returns-then-not-positions_rise-clause-err c =
    let fall : positions_rise 0 (map token_of c.args.tokens.items) ≡ false = search rules in
    (refl, λ are. true≢false (sym (they_rise 0 (map token_of c.args.tokens.items) are) ∙ fall))

pub invariant_of-result : goal.invariant_of-result
invariant_of-result c =
    let rise : positions_rise 0 (map token_of c.args.tokens.items) ≡ true = search rules in
    are_tokens 0 c.args.tokens.items rise

pub returns-clause-ok : goal.returns-clause-ok
returns-clause-ok c =
    let rise : positions_rise 0 (map token_of c.args.tokens.items) ≡ true = search rules in
    (refl, are_tokens 0 c.args.tokens.items rise)
