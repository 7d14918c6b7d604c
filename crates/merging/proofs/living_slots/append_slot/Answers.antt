use Rattle.std.proofs.Common.{[], ap, subst, sym, ◌++◌, ◌∙◌, ◌∷◌}
use Rattle.std.specs.List.{slice_index_or}
use Rattle.merging.proofs.SlotsLeft.{one_more, same_size}
use Rattle.store.proofs.SlotLaws.{slot_appended}
use Rattle.store.specs.Writing.{HoldsSlots, Written, docs_of, stored}
use Rattle.merging.proofs.living_slots.append_slot.Goals as goal

pub returns-clause-ok : goal.returns-clause-ok
returns-clause-ok c held slots holds hold =
    let w = c.args.writer.now in
    let doc = c.as_slice.result.now in
    let is = c.as_slice.ensures ∙ c.in_ok-slot.ensures.slot slots hold in
    subst (λ new. HoldsSlots new (held ++ slice_index_or slots c.args.doc [] ∷ [])) (sym c.in_ok-store_bytes.ensures.ok)
    (subst (λ x. HoldsSlots (stored w doc) (held ++ x ∷ [])) is (slot_appended w held doc c.num_docs-docs.ensures.valid holds c.in_ok-store_bytes.ensures.within))

pub returns-clause-docs : goal.returns-clause-docs
returns-clause-docs c = ap docs_of c.in_ok-store_bytes.ensures.ok ∙ one_more c.args.writer.now c.as_slice.result.now

pub returns-clause-size : goal.returns-clause-size
returns-clause-size c = ap (λ (x : Written). x.block_size) c.in_ok-store_bytes.ensures.ok ∙ same_size c.args.writer.now c.as_slice.result.now
