use Rattle.std.proofs.Common.{ap, inl, map, refl, ◌∙◌}
use Rattle.definitions.specs.Scanning.{scan, scan_count}
use Rattle.definitions.specs.State.{State, committed}
use Rattle.engine.specs.HandedOn.{scored}
use Rattle.histories.proofs.Following.{follows}
use Rattle.histories.proofs.Scans.{same_hits, same_number, smooth_ends}
use Rattle.histories.specs.Events.{standing_of}
use Rattle.histories.proofs.laws.openings_are_answered_as_a_plain_scan.Goals as goal

pub returns-clause-search : goal.returns-clause-search
returns-clause-search g c k groups events q n shown begins smooth leads did =
    let m = g.met.D.Device in
    let found = follows g.D.Device g.A.Analyzer m.only_now m.counts_now m.remains ⊥ k (standing_of groups) c.args.first.now c.args.last.now events (record { stands = begins.stands; honest = begins.honest; file = inl (begins.rests, refl); lists = λ none. absurd none }) leads in
    same_hits shown _ (did.stands k found.0.index found.2.stands).2.answered ∙ ap (λ (s : State). map scored (scan k.schema k.analyze k.similarity (committed s) q n)) (smooth_ends k (standing_of groups) found.0 events refl smooth found.1)

pub returns-clause-count : goal.returns-clause-count
returns-clause-count g c k groups events q n begins smooth leads did =
    let m = g.met.D.Device in
    let found = follows g.D.Device g.A.Analyzer m.only_now m.counts_now m.remains ⊥ k (standing_of groups) c.args.first.now c.args.last.now events (record { stands = begins.stands; honest = begins.honest; file = inl (begins.rests, refl); lists = λ none. absurd none }) leads in
    same_number n _ (did.stands k found.0.index found.2.stands).2.answered ∙ ap (λ (s : State). scan_count k.schema k.analyze (committed s) q) (smooth_ends k (standing_of groups) found.0 events refl smooth found.1)
