use Rattle.std.proofs.Common.{ap, ap₂, map, rules, ◌∙◌}
use Rattle.std.proofs.lemmas.Int.{to_z-of_z}
use Rattle.ask.proofs.EachWeighted.{each_made}
use Rattle.ask.specs.Rarity.{each_weighted}
use Rattle.ask.specs.Views.{weight_of}
use Rattle.definitions.specs.Query.{disjunction_max}
use Rattle.ask.proofs.rarity.best_weighted.Goals as goal
use mir.Syntax.{w64}
use mir.Val.{SFits}

pub returns : goal.returns
returns c =
    let ws = map weight_of c.args.weights.now in
    let made = each_made ws c.in_ok-disjuncts.disjuncts.items c.disjuncts.result.now c.in_ok-disjuncts.ensures in
    let fits : SFits w64 c.tie_breaker-tie_breaker.result = search rules in
    ap (λ p. disjunction_max p.0 p.1) c.with_tie_breaker.ensures ∙ ap₂ disjunction_max (made ∙ ap (each_weighted ws) c.disjuncts.ensures) (to_z-of_z w64 c.tie_breaker-tie_breaker.result fits ∙ c.tie_breaker-tie_breaker.ensures)
