use Rattle.std.proofs.Common.{[], ap, arith, refl, subst, sym, take, ◌∙◌}
use Rattle.merging.proofs.MembersHeld.{all_counted, all_slots, count_more, flagged_at, held_at, member_refused, more_slots}
use Rattle.merging.proofs.WrittenBlocks.{blocks_kept}
use Rattle.merging.specs.MemberStores.{merged_slots}
use Rattle.store.proofs.SlotLaws.{slots_kept}
use Rattle.std.proofs.lemmas.Result.{err_from_is_err_and}
use Rattle.store.specs.Writing.{HoldsSlots, Written, blocks_of, docs_of}
use Rattle.merging.proofs.member_stores.merge_stores.Goals as goal

pub loop-member-init : goal.loop-member-init
loop-member-init c = record {
  held = λ all held. subst (λ w. HoldsSlots w []) (sym c.new-writer.ensures) ([], refl, refl);
  docs = ap docs_of c.new-writer.ensures;
  size = ap (λ (w : Written). w.block_size) c.new-writer.ensures;
}

pub append_living-requires : goal.append_living-requires
append_living-requires c =
    let inside = c.loop-member-test.true in
    flagged_at c.args.members.now c.loop-member.member-index c.member-item.result c.requires (omega (arith, inside)) c.member-item.is

pub loop-member-preserved : goal.loop-member-preserved
loop-member-preserved c =
    let inside = c.loop-member-test.true in
    let i = c.loop-member.member-index in
    let ms = c.args.members.now in
    let m = c.member-item.result in
    let inv = c.loop-member.invariant in
    let docs = inv.docs in
    let done = c.in_ok-append_living.ensures.docs in
    let more = count_more i ms m c.member-item.is (omega (arith, inside)) in
    record {
      held = λ all held.
          (let at = held_at i ms all m c.member-item.is held (omega (arith, inside)) in
          subst (HoldsSlots c.append_living.new.writer) (more_slots i ms all m at) (c.in_ok-append_living.ensures.ok (merged_slots (take i ms) (take i all)) at.slots (inv.held all held) at.hold));
      docs = omega (arith, docs, done, more);
      size = c.in_ok-append_living.ensures.size ∙ inv.size;
    }

pub returns-in_err-append_living-clause-err : goal.returns-in_err-append_living-clause-err
returns-in_err-append_living-clause-err c =
    let inside = c.loop-member-test.true in
    let p = err_from_is_err_and c.from_residual.result c.from_residual.ensures.1 in
    rw (p.1, p.2) (member_refused c.in_err-append_living.field-0.0 c.args.block_size c.loop-member.member-index c.args.members.now c.member-item.result c.loop-member.writer c.member-item.is (omega (arith, inside)) c.loop-member.invariant.docs c.loop-member.invariant.size c.in_err-append_living.ensures.err)

pub returns-clause-ok : goal.returns-clause-ok
returns-clause-ok c all held =
    let w = c.loop-member.writer in
    let slots = merged_slots c.args.members.now all in
    let holds = subst (HoldsSlots w) (all_slots c.loop-member.member-index c.args.members.now all held c.loop-member-test.false) (c.loop-member.invariant.held all held) in
    let kept = slots_kept w.blocks w.pending slots w.block_size c.num_docs-docs.ensures.valid holds in
    (blocks_of w, kept.0, kept.1, c.in_ok-close.ensures)

pub returns-clause-blocks : goal.returns-clause-blocks
returns-clause-blocks c =
    let w = c.loop-member.writer in
    let docs = c.loop-member.invariant.docs in
    let all = all_counted c.loop-member.member-index c.args.members.now c.loop-member-test.false in
    let kept = blocks_kept w.blocks w.pending w.block_size c.num_docs-docs.ensures.valid in
    let count = kept.1 in
    (blocks_of w, kept.0, c.in_ok-close.ensures, omega (arith, count, docs, all))
