use Rattle.std.proofs.Common.{[], ap, inl, inr, refl, subst, ◌++◌, ◌∙◌, ◌∷◌, ◌≡◌, ⊎_elim}
use Rattle.definitions.specs.Calls as calls
use Rattle.definitions.specs.State.{State}
use Rattle.engine.specs.Indexes.{IndexStands}
use Rattle.histories.proofs.Following.{follows}
use Rattle.histories.proofs.Scans.{cut_leads, smooth_leads}
use Rattle.histories.specs.Events.{Standing, cut_off, standing_of}
use Rattle.histories.proofs.laws.a_crash_inside_the_last_call_leaves_one_of_two.Goals as goal

pub returns : goal.returns
returns g c k groups events call begins smooth leads =
    let m = g.met.D.Device in
    let last = c.args.last.now in
    let found = follows g.D.Device g.A.Analyzer m.only_now m.counts_now m.remains ⊥ k (standing_of groups) c.args.first.now last (events ++ cut_off call ∷ []) (record { stands = begins.stands; honest = begins.honest; file = inl (begins.rests, refl); lists = λ none. absurd none }) leads in
    let at = smooth_leads k (standing_of groups) found.0 events (cut_off call ∷ []) refl smooth found.1 in
    let stood : (s : Standing) → found.0 ≡ s → IndexStands g.A.Analyzer.analyze last k s.index = λ s is. subst (λ (z : Standing). IndexStands g.A.Analyzer.analyze last k z.index) is found.2.stands in
    ⊎_elim
    (λ old. inl (stood _ (old ∙ ap (λ (s : State). standing_of s.groups) at.1)))
    (λ new. inr (stood _ (new ∙ ap (λ (s : State). standing_of (calls.after k s call).groups) at.1)))
    (cut_leads k at.0 found.0 call at.2 at.3)
