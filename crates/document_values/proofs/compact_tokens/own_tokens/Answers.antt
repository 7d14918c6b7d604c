use Rattle.std.proofs.Common.{[], ap, map, ◌++◌, ◌∙◌, ◌∷◌, ◌≡◌}
use Rattle.std.proofs.lemmas.List.{map-append}
use Rattle.common.specs.Token.{token_of}
use Rattle.document_values.proofs.Tokens.{one_token}
use Rattle.document_values.proofs.compact_tokens.own_tokens.Goals as goal

pub loop-left-preserved : goal.loop-left-preserved
loop-left-preserved c =
    let l = c.loop-left in
    let t = c.in_ok-token.token in
    let more : map token_of c.push.new.self.items ≡ map token_of l.tokens.items ++ (token_of t ∷ []) = ap (map token_of) c.in_ok-push.ensures.items ∙ map-append token_of l.tokens.items (t ∷ []) in
    one_token (map token_of l.tokens.items) (map token_of c.push.new.self.items) l.least l.left l.rest.now c.in_ok-token.after.now (token_of t) c.loop-left-test.true c.in_ok-token.ensures more ∙ l.invariant
