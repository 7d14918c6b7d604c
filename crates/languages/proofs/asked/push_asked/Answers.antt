use Rattle.std.proofs.Common.{[], ◌++◌, ◌∙◌, ◌∷◌, ◌≡◌, ◌||◌, Some, ap, ap₂, map, option_map, rules, sym}
use Rattle.std.proofs.lemmas.List.{map-append}
use Rattle.common.specs.Token.{token_of}
use Rattle.languages.specs.Asked.{asked_behind, is_first}
use Rattle.languages.proofs.AskedTokens.{kept-none, kept-one}
use Rattle.languages.proofs.asked.push_asked.Goals as goal
use Rattle.languages.proofs.asked.push_asked.Goals.{then-is_second-via-then-is_second, then-is_second-via-else-is_second+then-is_first}

pub returns-then-is_second : goal.returns-then-is_second
returns-then-is_second c =
    let before = option_map (λ t. token_of t.now) c.args.before in
    let token = token_of c.args.token.now in
    let behind = map token_of c.args.behind.now in
    let front = map token_of c.args.kept.now.items in
    elim c.then-is_second.branch [
      | then-is_second-via-then-is_second w ↦
          kept-none before front token behind (ap (λ b. b || is_first token behind) (sym c.is_second.ensures ∙ w.if-is_second.true))
      | then-is_second-via-else-is_second+then-is_first w ↦
          kept-none before front token behind (ap₂ (λ a b. a || b) (sym c.is_second.ensures ∙ w.if-is_second.false) (sym w.is_first.ensures ∙ w.if-is_first.true))
    ]

pub returns : goal.returns
returns c =
    let before = option_map (λ t. token_of t.now) c.args.before in
    let token = token_of c.args.token.now in
    let behind = map token_of c.args.behind.now in
    let front = map token_of c.args.kept.now.items in
    let same : token_of c.in_ok-clone.field-0 ≡ token = search rules in
    let longer : map token_of c.push.new.self.items ≡ front ++ token ∷ [] =
    ap (λ items. map token_of items) c.in_ok-push.ensures.items
    ∙ map-append token_of c.args.kept.now.items (c.in_ok-clone.field-0 ∷ [])
    ∙ ap (λ t. front ++ t ∷ []) same in
    ap (λ items. items ++ asked_behind (Some token) behind) longer
    ∙ kept-one before front token behind (ap₂ (λ a b. a || b) (sym c.is_second.ensures ∙ c.if-is_second.false) (sym c.is_first.ensures ∙ c.if-is_first.false))
