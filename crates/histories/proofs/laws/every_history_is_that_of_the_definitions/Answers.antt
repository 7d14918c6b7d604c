use Rattle.std.proofs.Common.{inl, refl}
use Rattle.histories.proofs.Following.{follows}
use Rattle.histories.specs.Events.{standing_of}
use Rattle.histories.proofs.laws.every_history_is_that_of_the_definitions.Goals as goal

pub returns : goal.returns
returns g c k groups events begins leads =
    let m = g.met.D.Device in
    let found = follows g.D.Device g.A.Analyzer m.only_now m.counts_now m.remains ⊥ k (standing_of groups) c.args.first.now c.args.last.now events (record { stands = begins.stands; honest = begins.honest; file = inl (begins.rests, refl); lists = λ none. absurd none }) leads in
    (found.0, found.1, found.2.stands)
