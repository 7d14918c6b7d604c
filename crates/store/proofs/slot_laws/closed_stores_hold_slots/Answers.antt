use Rattle.store.proofs.SlotLaws.{slots_kept}
use Rattle.store.proofs.slot_laws.closed_stores_hold_slots.Goals as goal

pub returns : goal.returns
returns c = λ w slots. slots_kept w.blocks w.pending slots w.block_size
