use Rattle.store.proofs.SlotLaws.{slots_stacked}
use Rattle.store.proofs.slot_laws.stacked_stores_append_slots.Goals as goal

pub returns : goal.returns
returns c = slots_stacked
