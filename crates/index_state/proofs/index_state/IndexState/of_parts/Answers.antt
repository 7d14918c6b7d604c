use Rattle.std.proofs.Common.{[], arith, refl, ◌<◌}
use Rattle.std.proofs.lemmas.Grind.{merely}
use Rattle.index_state.proofs.Committing.{first_stands}
use Rattle.index_state.proofs.Members.{of_groups}
use Rattle.index_state.proofs.index_state.IndexState.of_parts.Goals as goal

pub invariant_of-result-clause-opened : goal.invariant_of-result-clause-opened
invariant_of-result-clause-opened g c = merely c.requires.opened

pub invariant_of-result-clause-held : goal.invariant_of-result-clause-held
invariant_of-result-clause-held g c = merely (λ _. ([], [], c.new-pending.ensures.holds c.args.schema (g.A.Analyzer.analyze c.args.analyzer) c.args.settings.block_size))

pub returns-clause-stands : goal.returns-clause-stands
returns-clause-stands g c groups h =
    let of = of_groups c.args.schema (g.A.Analyzer.analyze c.args.analyzer) c.args.segments.items c.args.alive.items groups c.requires.opened c.requires.each h in
    let n = c.docs_per_segment-docs_per_segment.ensures.value in
    let some = c.docs_per_segment-docs_per_segment.ensures.within.0 in
    let sized : 0 < c.args.settings.docs_per_segment = omega (arith, n, some) in
    first_stands g.A.Analyzer.analyze _ of.docs groups refl sized of.shown of.groups_are of.each (c.new-pending.ensures.holds c.args.schema (g.A.Analyzer.analyze c.args.analyzer) c.args.settings.block_size) c.new-deletions.ensures.items

pub returns-clause-idle : goal.returns-clause-idle
returns-clause-idle g c =
    record { ready = refl; no_documents = c.new-pending.ensures.none; no_deletions = c.new-deletions.ensures.items }
