use Rattle.std.proofs.Common.{[], ◌++◌, ◌∙◌, ◌≡◌, ap, map, option_map, sym}
use Rattle.std.proofs.lemmas.List.{nil_from_length}
use Rattle.common.specs.Token.{token_of}
use Rattle.languages.specs.Asked.{asked_behind}
use Rattle.languages.proofs.AskedTokens.{kept-end}
use Rattle.languages.proofs.asked.pairs_alone.Goals as goal

pub returns : goal.returns
returns c =
    let before = option_map (λ t. token_of t.now) c.loop-token.before in
    let front = map token_of c.loop-token.kept.items in
    let rest : c.loop-token.rest.now ≡ [] = nil_from_length c.loop-token.rest.now c.in_default.ensures.cases in
    sym (kept-end before front) ∙ ap (λ r. front ++ asked_behind before (map token_of r)) (sym rest) ∙ c.loop-token.invariant
