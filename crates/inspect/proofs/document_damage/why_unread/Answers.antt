use Rattle.std.proofs.Common.{subst, ◌≡◌}
use Rattle.inspect.specs.declared.damage.Unread.TheVariants.{Block, Slot}
use Rattle.store.specs.Slots.{HasSlot}
use Rattle.inspect.proofs.document_damage.why_unread.Goals as goal
use Rattle.inspect.proofs.document_damage.why_unread.Goals.{in-Err, in-Err-Damaged, in-Ok}

block_is_no_slot : Block ≡ Slot → ⊥
block_is_no_slot same = cc

pub returns-clause-slot : goal.returns-clause-slot
returns-clause-slot c = elim c.match-read_document_bytes.branch [
  | in-Ok w ↦ rw w.result-is (λ told. (w.in-Ok.field-0, subst (λ bs. HasSlot bs c.args.doc w.in-Ok.field-0) c.store.ensures w.in-Ok.ensures.ok))
  | in-Err-Damaged w ↦ rw w.result-is (λ told. absurd (block_is_no_slot told))
  | in-Err w ↦ rw w.result-is tt
]
