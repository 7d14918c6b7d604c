use Rattle.std.proofs.Common.{ap, map, refl, ◌∙◌}
use Rattle.definitions.specs.Scanning.{scan, scan_count}
use Rattle.definitions.specs.State.{State, committed}
use Rattle.definitions.specs.Step.{reopened}
use Rattle.engine.specs.HandedOn.{scored}
use Rattle.histories.proofs.Scans.{calls_lead, same_hits, same_number}
use Rattle.histories.proofs.laws.calls_are_answered_as_a_plain_scan.Goals as goal

pub returns-clause-search : goal.returns-clause-search
returns-clause-search g c k groups cs q n shown stands leads did =
    let led = calls_lead g.D.Device g.A.Analyzer k (reopened groups).state (reopened groups) c.args.first.now c.args.last.now cs refl stands leads in
    same_hits shown _ (did.stands k led.0 led.2).2.answered ∙ ap (λ (s : State). map scored (scan k.schema k.analyze k.similarity (committed s) q n)) led.1

pub returns-clause-count : goal.returns-clause-count
returns-clause-count g c k groups cs q n stands leads did =
    let led = calls_lead g.D.Device g.A.Analyzer k (reopened groups).state (reopened groups) c.args.first.now c.args.last.now cs refl stands leads in
    same_number n _ (did.stands k led.0 led.2).2.answered ∙ ap (λ (s : State). scan_count k.schema k.analyze (committed s) q) led.1
