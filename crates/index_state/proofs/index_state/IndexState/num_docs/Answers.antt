use Rattle.std.proofs.Common.{ap, length, sum_by, sym, ◌∙◌}
use Rattle.common.specs.BitSets.{count_set}
use Rattle.definitions.proofs.Joins.{joined}
use Rattle.index_state.proofs.Groups.{length-groups}
use Rattle.index_state.proofs.Shadows.{members_living}
use Rattle.index_state.proofs.Standings.{have_flags}
use Rattle.index_state.proofs.index_state.IndexState.num_docs.Goals as goal

pub returns-clause-stands : goal.returns-clause-stands
returns-clause-stands g c k x s =
    let index = c.args.self.now in
    let sets = index.alive.items in
    let flags = have_flags index.schema (g.A.Analyzer.analyze index.analyzer) s.docs index.segments.items sets s.segments index.flagged in
    c.count_alive.ensures ∙ ap (λ xs. sum_by count_set xs) c.deref.ensures.value ∙ sym (length-groups s.docs sets flags) ∙ sym (ap (λ gs. length (joined gs)) s.groups)

pub returns-clause-living : goal.returns-clause-living
returns-clause-living g c =
    let index = c.args.self.now in
    c.count_alive.ensures ∙ ap (λ xs. sum_by count_set xs) c.deref.ensures.value ∙ sym (members_living index.segments.items index.alive.items index.flagged)
