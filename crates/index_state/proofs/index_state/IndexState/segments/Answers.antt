use Rattle.std.proofs.Common.{List, ap, arith, length, subst, sym, take, ◌∙◌, ◌≡◌, ◌≤◌}
use Rattle.std.proofs.Math.Logic.{∥∥₁_map}
use Rattle.std.proofs.lemmas.List.{length-take-le}
use Rattle.std.specs.List.{AllByRecursion, AllZip}
use Rattle.definitions.specs.Alive.{live_groups}
use Rattle.definitions.specs.Calls as calls
use Rattle.definitions.specs.Values.{Document}
use Rattle.segment.specs.Opened.{IsOpened, StandsFor}
use Rattle.segment_definitions.specs.IndexFiles.{IsGroup}
use Rattle.segment_search.proofs.Flagging.{flagged_taken, flagged_within}
use Rattle.index_state.proofs.Members.{each_take, in_groups, zip_take}
use Rattle.definitions.proofs.Lists.{all_take}
use Rattle.index_state.specs.Flags.{AreFlagged, flagged_each, members}
use Rattle.index_state.proofs.index_state.IndexState.segments.Goals as goal

pub slice_bounds-result-end : goal.slice_bounds-result-end
slice_bounds-result-end g c =
    let index = c.args.self.now in
    let few = flagged_within index.segments.items index.alive.items index.flagged in
    let k : c.len.result ≡ length index.alive.items = c.len.ensures ∙ index.alive.ok.0 in
    let same = ap length c.deref.ensures.value in
    let within : c.len.result ≤ length c.deref.result.now = omega (arith, few, k, same) in
    sym (length-take-le c.len.result c.deref.result.now within)

pub returns-clause-opened : goal.returns-clause-opened
returns-clause-opened g c =
    let index = c.args.self.now in
    ∥∥₁_map index.opened (λ all. subst (λ xs. AllByRecursion (IsOpened index.schema) (take c.len.result xs)) (sym c.deref.ensures.value) (all_take (IsOpened index.schema) c.len.result index.segments.items all))

pub returns-clause-flagged : goal.returns-clause-flagged
returns-clause-flagged g c =
    let index = c.args.self.now in
    let sets = index.alive.items in
    let k : c.len.result ≡ length sets = c.len.ensures ∙ index.alive.ok.0 in
    subst (λ n. AreFlagged (take n c.deref.result.now) sets) (sym k) (subst (λ xs. AreFlagged (take (length sets) xs) sets) (sym c.deref.ensures.value) (flagged_taken index.segments.items sets index.flagged))

pub returns-clause-each : goal.returns-clause-each
returns-clause-each g c =
    let index = c.args.self.now in
    let few = flagged_within index.segments.items index.alive.items index.flagged in
    let k : c.len.result ≡ length index.alive.items = c.len.ensures ∙ index.alive.ok.0 in
    let same = ap length c.deref.ensures.value in
    let within : c.len.result ≤ length c.deref.result.now = omega (arith, few, k, same) in
    length-take-le c.len.result c.deref.result.now within ∙ k

pub returns-clause-stands : goal.returns-clause-stands
returns-clause-stands g c k x s =
    let index = c.args.self.now in
    let sets = index.alive.items in
    let analyze = g.A.Analyzer.analyze index.analyzer in
    let docs = take (length sets) s.docs in
    let count : c.len.result ≡ length sets = c.len.ensures ∙ index.alive.ok.0 in
    let first = zip_take (StandsFor index.schema analyze) s.docs index.segments.items (length sets) s.segments in
    let shown = subst (λ n. AllZip (StandsFor index.schema analyze) docs (take n c.deref.result.now)) (sym count) (subst (λ xs. AllZip (StandsFor index.schema analyze) docs (take (length sets) xs)) (sym c.deref.ensures.value) first) in
    subst (λ (m : calls.Configuration). (docs : List (List Document)) × AllZip (StandsFor m.schema m.analyze) docs (take c.len.result c.deref.result.now) × (x.state.groups ≡ live_groups (flagged_each docs sets))) (sym s.made)
    (docs, shown, s.groups ∙ ap live_groups (sym (each_take s.docs sets)))

pub returns-clause-groups : goal.returns-clause-groups
returns-clause-groups g c k x s =
    let index = c.args.self.now in
    let sets = index.alive.items in
    let segments = index.segments.items in
    let analyze = g.A.Analyzer.analyze index.analyzer in
    let are = subst (AllZip (IsGroup index.schema analyze) (members segments sets)) (sym s.groups) (in_groups index.schema analyze s.docs segments sets s.segments index.flagged) in
    subst (λ (m : calls.Configuration). AllZip (IsGroup m.schema m.analyze) (members segments sets) x.state.groups) (sym s.made) are
