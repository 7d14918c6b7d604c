use Rattle.std.proofs.Common.{ap, length, sym, ◌∙◌}
use Rattle.std.proofs.lemmas.List.{length-map}
use Rattle.definitions.specs.State.{living}
use Rattle.index_state.proofs.EachFlagged.{length-each}
use Rattle.index_state.proofs.Shadows.{members_counted}
use Rattle.index_state.proofs.Standings.{sets_within}
use Rattle.index_state.specs.Flags.{flagged_each}
use Rattle.index_state.proofs.index_state.IndexState.num_segments.Goals as goal

pub returns-clause-stands : goal.returns-clause-stands
returns-clause-stands g c k x s =
    let index = c.args.self.now in
    let sets = index.alive.items in
    let few = sets_within index.schema (g.A.Analyzer.analyze index.analyzer) s.docs index.segments.items sets s.segments index.flagged in
    c.len.ensures ∙ index.alive.ok.0 ∙ sym (length-each s.docs sets few) ∙ sym (length-map (flagged_each s.docs sets) living) ∙ sym (ap length s.groups)

pub returns-clause-members : goal.returns-clause-members
returns-clause-members g c =
    let index = c.args.self.now in
    c.len.ensures ∙ index.alive.ok.0 ∙ sym (members_counted index.segments.items index.alive.items index.flagged)
