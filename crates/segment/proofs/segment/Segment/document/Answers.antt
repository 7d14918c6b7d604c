use Rattle.std.proofs.Common.{inl, inr, refl, subst, sym}
use Rattle.std.proofs.Math.Logic.{∥∥₁_map}
use Rattle.std.proofs.lemmas.Result.{IfErr-weaker, IfOk-weaker, err_from_is_err_and}
use Rattle.segment.proofs.Fetching.{never_none, opened_again, past_documents, read_is, shown_is, stands_again, stands_hold, within}
use Rattle.segment_definitions.specs.Slots.{slots}
use Rattle.store.specs.Slots.{HasSlot}
use Rattle.segment.proofs.segment.Segment.document.Goals as goal

pub invariant_of-self : goal.invariant_of-self
invariant_of-self c = record { opened = ∥∥₁_map c.args.self.now.opened (λ o. (o.0, opened_again o.0 c.args.self.now c.get_document_bytes.new.self.blocks c.get_document_bytes.ensures.blocks o.1)) }

pub returns-in_err-slot-clause-refused : goal.returns-in_err-slot-clause-refused
returns-in_err-slot-clause-refused c analyze docs stands =
    let p = err_from_is_err_and c.from_residual.result c.from_residual.ensures.1 in
    let schema = c.args.schema.now in
    rw (p.1, p.2) (past_documents schema analyze docs c.args.self.now stands c.args.doc _ (c.in_err-slot.ensures.refused (slots schema docs) (stands_hold schema analyze docs c.args.self.now stands)))

pub returns-clause-err : goal.returns-clause-err
returns-clause-err c =
    let has = subst (HasSlot c.args.self.now.store.blocks c.args.doc) (sym c.as_slice.ensures) c.in_ok-slot.ensures.ok in
    IfErr-weaker c.read_slot.result _ _ (λ fault refused. elim refused [ inl memory ↦ inl memory | inr damaged ↦ inr (inr (damaged.0, (c.as_slice.result.now, has, damaged.1))) ]) c.read_slot.ensures.err

pub returns-clause-stored : goal.returns-clause-stored
returns-clause-stored c analyze docs stands =
    let s = c.args.self.now in
    let has = subst (HasSlot s.store.blocks c.args.doc) (sym c.as_slice.ensures) c.in_ok-slot.ensures.ok in
    IfOk-weaker c.read_slot.result _ _ (λ read is. read_is c.args.schema.now analyze docs s stands c.args.doc c.as_slice.result.now read has c.read_slot.ensures.short is) c.read_slot.ensures.ok

pub returns-clause-shown : goal.returns-clause-shown
returns-clause-shown c analyze docs stands =
    let s = c.args.self.now in
    let has = subst (HasSlot s.store.blocks c.args.doc) (sym c.as_slice.ensures) c.in_ok-slot.ensures.ok in
    IfOk-weaker c.read_slot.result _ _ (λ read is. shown_is c.args.schema.now analyze docs s stands c.args.doc c.as_slice.result.now read has c.read_slot.ensures.short is) c.read_slot.ensures.ok

pub returns-clause-refused : goal.returns-clause-refused
returns-clause-refused c analyze docs stands =
    let schema = c.args.schema.now in
    let s = c.args.self.now in
    let has = subst (HasSlot s.store.blocks c.args.doc) (sym c.as_slice.ensures) c.in_ok-slot.ensures.ok in
    IfErr-weaker c.read_slot.result _ _ (λ fault refused. elim refused [ inl memory ↦ inl (memory, within schema analyze docs s stands c.args.doc c.as_slice.result.now has) | inr damaged ↦ absurd (never_none schema analyze docs s stands c.args.doc c.as_slice.result.now has c.read_slot.ensures.short damaged.1) ]) c.read_slot.ensures.err

pub returns-clause-opened : goal.returns-clause-opened
returns-clause-opened c schema o = opened_again schema c.args.self.now c.get_document_bytes.new.self.blocks c.get_document_bytes.ensures.blocks o

pub returns-clause-stands : goal.returns-clause-stands
returns-clause-stands c schema analyze docs stands = stands_again schema analyze docs c.args.self.now _ refl (opened_again schema c.args.self.now c.get_document_bytes.new.self.blocks c.get_document_bytes.ensures.blocks stands.opened) stands
