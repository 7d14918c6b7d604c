-- A slot that is no document stands where it is sought.
use Rattle.std.proofs.Common.{◌∙◌, ap, inl, inr, sym}
use Rattle.std.proofs.lemmas.Result.{IfErr-weaker}
use Rattle.layouts.specs.DocumentReading.{read_document}
use Rattle.store.proofs.DocumentSlots.{slot_below}
use Rattle.store.proofs.store_reader.StoreReader.get.Goals as goal

pub returns-clause-refused : goal.returns-clause-refused
returns-clause-refused c = λ slots hold.
    let slot = c.in_ok-bytes.ensures.slot slots hold in
    let has = c.in_ok-bytes.ensures.ok in
    let below = slot_below c.args.self.now.blocks slots c.args.doc has.0 hold has.1 in
    IfErr-weaker c.deserialize.result _ _ (λ fault f. elim f [ inl memory ↦ inl memory | inr damaged ↦ inr (inr (damaged.0, below, sym (ap read_document slot) ∙ sym (ap read_document c.as_slice.ensures) ∙ damaged.1)) ]) c.deserialize.ensures.err
