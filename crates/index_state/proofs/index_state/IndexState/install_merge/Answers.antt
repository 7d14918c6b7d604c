use Rattle.std.proofs.Common.{ap, arith, length, map, refl, subst, sym, ◌∙◌}
use Rattle.std.proofs.Math.Logic.{∥∥₁_map}
use Rattle.std.proofs.lemmas.List.{length-map}
use Rattle.std.specs.List.{AllByRecursion}
use Rattle.segment.specs.Opened.{IsOpened}
use Rattle.segment_search.proofs.Flagging.{flagged_within}
use Rattle.index_state.proofs.MergedLists.{all_replaced, length-replaced}
use Rattle.index_state.proofs.MergedGroups.{few_new, flagged_replaced, members_replaced, merged_stands, new_opened}
use Rattle.index_state.specs.Flags.{AreFlagged, members}
use Rattle.index_state.specs.Merges.{all_alive, new_in, replaced}
use Rattle.index_state.proofs.index_state.IndexState.install_merge.Goals as goal

pub replace_range-requires-clause-within : goal.replace_range-requires-clause-within
replace_range-requires-clause-within g c =
    let old = c.args.self.now in
    let few = flagged_within old.segments.items old.alive.items old.flagged in
    let within = c.requires.within in
    omega (arith, few, within)

pub invariant_of-self : goal.invariant_of-self
invariant_of-self g c =
    let old = c.args.self.now in
    let p = c.args.prepared in
    let r = c.requires in
    let some = r.has_segments in
    let within = r.within in
    let count = length-replaced p.from p.to (map all_alive (new_in p)) old.alive.items (omega (arith, some, within)) in
    let one = few_new p.segment in
    let same = length-map (new_in p) all_alive in
    let sets = ap length r.sets in
    let few = old.few in
    record {
      opened = ∥∥₁_map old.opened (λ all. subst (AllByRecursion (IsOpened old.schema)) (sym c.replace_range.ensures) (all_replaced (IsOpened old.schema) p.from p.to (new_in p) old.segments.items (new_opened old.schema p.segment r.opened) all));
      flagged = subst (λ ss. AreFlagged ss p.alive.items) (sym c.replace_range.ensures) (subst (AreFlagged (replaced p.from p.to (new_in p) old.segments.items)) (sym r.sets) (flagged_replaced p.from p.to (new_in p) old.segments.items old.alive.items (omega (arith, some, within)) old.flagged));
      held = old.held;
      few = omega (arith, count, one, same, sets, few, some, within);
    }

pub returns-clause-left : goal.returns-clause-left
returns-clause-left g c k x from to s joins =
    let old = c.args.self.now in
    merged_stands g.A.Analyzer.analyze old _ (record { analyzer = refl; schema = refl; settings = refl }) k x s c.args.prepared c.requires from to joins c.replace_range.ensures refl refl refl refl

pub returns-clause-members : goal.returns-clause-members
returns-clause-members g c =
    let old = c.args.self.now in
    let p = c.args.prepared in
    let r = c.requires in
    let some = r.has_segments in
    let within = r.within in
    let news = new_in p in
    ap (λ ss. members ss p.alive.items) c.replace_range.ensures
    ∙ ap (members (replaced p.from p.to news old.segments.items)) r.sets
    ∙ members_replaced p.from p.to news old.segments.items old.alive.items (omega (arith, some, within)) old.flagged
