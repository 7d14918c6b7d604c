use Rattle.std.proofs.Common.{ap, map, subst, ◌∙◌}
use Rattle.std.proofs.Math.Logic.{∥∥₁_elim}
use Rattle.std.proofs.Props.{props}
use Rattle.std.proofs.lemmas.Result.{IfErr-weaker, IfOk-weaker}
use Rattle.std.specs.List.{AllByRecursion-prop}
use Rattle.layouts.specs.Stores.{IsStore}
use Rattle.merging.specs.MemberStores.{IsFlagged}
use Rattle.merging.specs.declared.member_stores.MemberStore.{MemberStore}
use Rattle.segment.proofs.MergedStores.{count_same, slots_same, store_refused, stores_flagged, stores_held}
use Rattle.segment.specs.Members.{member_of}
use Rattle.segment.proofs.merged_slots.merge_slots.Goals as goal

pub merge_stores-requires : goal.merge_stores-requires
merge_stores-requires c = ∥∥₁_elim c.requires (AllByRecursion-prop IsFlagged (λ s. hlevel props) c.deref.result.now) (λ o. stores_flagged o.0 c.deref.result.now (map member_of c.args.members.now) (ap (map (λ (s : MemberStore). (s.store.now.blocks, s.alive.now))) c.deref.ensures.value ∙ c.in_ok-stores.ensures) o.1)

pub returns-clause-ok : goal.returns-clause-ok
returns-clause-ok c all held =
    let ss = c.deref.result.now in
    let same = ap (map (λ (s : MemberStore). (s.store.now.blocks, s.alive.now))) c.deref.ensures.value ∙ c.in_ok-stores.ensures in
    IfOk-weaker c.merge_stores.result _ _ (λ bytes is. subst (λ xs. IsStore xs bytes.items) (slots_same ss (map member_of c.args.members.now) all same) is) (c.merge_stores.ensures.ok all (stores_held ss (map member_of c.args.members.now) all same held))

pub returns-clause-blocks : goal.returns-clause-blocks
returns-clause-blocks c =
    let ss = c.deref.result.now in
    let ms = map member_of c.args.members.now in
    let same = ap (map (λ (s : MemberStore). (s.store.now.blocks, s.alive.now))) c.deref.ensures.value ∙ c.in_ok-stores.ensures in
    IfOk-weaker c.merge_stores.result _ _ (λ bytes is. (is.0, is.1, is.2, is.3 ∙ count_same ss ms same)) c.merge_stores.ensures.blocks

pub returns-clause-err : goal.returns-clause-err
returns-clause-err c =
    let ss = c.deref.result.now in
    let same = ap (map (λ (s : MemberStore). (s.store.now.blocks, s.alive.now))) c.deref.ensures.value ∙ c.in_ok-stores.ensures in
    IfErr-weaker c.merge_stores.result _ _ (λ fault refused. store_refused fault c.args.block_size ss (map member_of c.args.members.now) same refused) c.merge_stores.ensures.err
