use Rattle.store.proofs.SlotLaws.{slot_appended}
use Rattle.store.proofs.slot_laws.documents_append_slots.Goals as goal

pub returns : goal.returns
returns c = slot_appended
