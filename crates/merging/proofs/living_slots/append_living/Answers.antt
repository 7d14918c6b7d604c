use Rattle.std.proofs.Common.{ap, arith, length, subst, sym, ◌++◌, ◌≡◌, ◌∙◌}
use Rattle.std.specs.List.{items_where_true}
use Rattle.common.specs.BitSets.{count_set}
use Rattle.merging.proofs.SlotsLeft.{all_living, stacked_docs}
use Rattle.store.proofs.Readers.{hold_length as hold_many}
use Rattle.store.proofs.SlotLaws.{slots_stacked}
use Rattle.store.specs.Stacking.{stacked}
use Rattle.store.specs.Writing.{HoldsSlots, docs_of}
use Rattle.merging.proofs.living_slots.append_living.Goals as goal

pub returns-then-num_alive-len-clause-ok : goal.returns-then-num_alive-len-clause-ok
returns-then-num_alive-len-clause-ok c held slots holds hold =
    let flags = c.args.alive.now in
    let many = hold_many c.args.store.now.blocks slots hold in
    let same = c.requires in
    let alike : length slots ≡ length flags = omega (arith, many, same) in
    let full : count_set flags ≡ length flags = sym c.num_alive.ensures ∙ c.if-num_alive-len.true ∙ c.len.ensures.len in
    subst (λ w. HoldsSlots w (held ++ items_where_true flags slots)) (sym c.in_ok-stack.ensures.ok)
    (subst (λ xs. HoldsSlots (stacked c.args.writer.now c.args.store.now.blocks) (held ++ xs)) (sym (all_living flags slots full alike))
    (slots_stacked c.args.writer.now held slots c.args.store.now.blocks c.num_docs-docs.ensures.valid holds hold))

pub returns-then-num_alive-len-clause-docs : goal.returns-then-num_alive-len-clause-docs
returns-then-num_alive-len-clause-docs c =
    let new = ap docs_of c.in_ok-stack.ensures.ok in
    let stack = stacked_docs c.args.writer.now c.args.store.now.blocks in
    let same = c.requires in
    let full = sym c.num_alive.ensures ∙ c.if-num_alive-len.true ∙ c.len.ensures.len in
    omega (arith, new, stack, same, full)
