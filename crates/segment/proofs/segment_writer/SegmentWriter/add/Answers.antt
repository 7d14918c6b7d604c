use Rattle.std.proofs.Common.{[], ap, arith, inl, inr, length-append, refl, subst, sym, ◌++◌, ◌∙◌, ◌∷◌}
use Rattle.std.proofs.Math.Logic.{∥∥₁_map}
use Rattle.std.proofs.lemmas.Result.{err_from_is_err_and}
use Rattle.definitions.proofs.Lists.{all_push as all_more}
use Rattle.merging.proofs.SlotsLeft.{same_size as sized_kept}
use Rattle.segment_definitions.specs.Segments.{IsTaken}
use Rattle.segment_definitions.specs.Slots.{slot, slots}
use Rattle.segment.proofs.Adding.{docs_counted, passes_store, slots_more, stays_within}
use Rattle.segment.proofs.StoredBack.{taken_shallow}
use Rattle.store.proofs.SlotLaws.{slot_appended}
use Rattle.store.specs.Writing.{HoldsSlots, Written, stored}
use Rattle.segment.proofs.segment_writer.SegmentWriter.add.Goals as goal

pub store-requires : goal.store-requires
store-requires g c = record { nests = taken_shallow c.args.schema.now c.args.doc.now c.requires.taken.1 }

pub add-requires : goal.add-requires
add-requires g c = ∥∥₁_map c.requires.written (λ given. (given.1, given.2.indexed))

pub returns-then-num_docs-ge-TERMINATED-clause-err : goal.returns-then-num_docs-ge-TERMINATED-clause-err
returns-then-num_docs-ge-TERMINATED-clause-err g c block_size docs h =
    let count = docs_counted c.args.self.now.store c.args.schema.now docs h.stored in
    let at = c.num_docs.ensures.count in
    let many = c.if-num_docs-ge-TERMINATED.true in
    inr (refl, inl (inr (omega (arith, count, at, many))))

pub returns-in_err-store-clause-err : goal.returns-in_err-store-clause-err
returns-in_err-store-clause-err g c block_size docs h =
    let p = err_from_is_err_and c.from_residual.result c.from_residual.ensures.1 in
    rw (p.1, p.2) (elim c.in_err-store.ensures.err [
      | inl memory ↦ inl memory
      | inr limit ↦ inr (limit.0, inl (passes_store c.args.self.now.store c.args.schema.now docs c.args.doc.now block_size h.stored h.sized limit.1))
    ])

pub returns-in_err-add-clause-err : goal.returns-in_err-add-clause-err
returns-in_err-add-clause-err g c block_size docs h =
    let p = err_from_is_err_and c.from_residual-in_err-add.result c.from_residual-in_err-add.ensures.1 in
    rw (p.1, p.2) (elim (c.in_err-add.ensures.err docs h.indexed) [
      | inl memory ↦ inl memory
      | inr limit ↦ inr (limit.0, inr limit.1)
    ])

pub returns-in_err-add-clause-unchanged : goal.returns-in_err-add-clause-unchanged
returns-in_err-add-clause-unchanged g c block_size docs h passes =
    absurd (stays_within c.args.self.now.store c.args.schema.now docs c.args.doc.now block_size h.stored h.sized c.in_ok-store.ensures.within passes)

pub returns-clause-within : goal.returns-clause-within
returns-clause-within g c block_size docs h =
    record {
      stored = stays_within c.args.self.now.store c.args.schema.now docs c.args.doc.now block_size h.stored h.sized c.in_ok-store.ensures.within;
      indexed = c.in_ok-add.ensures.within docs h.indexed;
    }

pub returns-clause-ok : goal.returns-clause-ok
returns-clause-ok g c block_size docs h =
    let schema = c.args.schema.now in
    let doc = c.args.doc.now in
    let was = c.args.self.now.store in
    let more = slot_appended was (slots schema docs) (slot schema doc) c.num_docs.ensures.valid h.stored c.in_ok-store.ensures.within in
    let within = (c.in_ok-add.ensures.within docs h.indexed).0 in
    record {
      taken = all_more (IsTaken schema) docs doc h.taken c.requires.taken;
      texts = λ some. g.met.A.Analyzer.is_analyzer c.args.analyzer.now;
      num_docs_fit = omega (arith, within, length-append docs (doc ∷ []));
      indexed = c.in_ok-add.ensures.ok docs h.indexed;
      stored = subst (λ (w : Written). HoldsSlots w (slots schema (docs ++ doc ∷ []))) (sym c.in_ok-store.ensures.ok) (subst (HoldsSlots (stored was (slot schema doc))) (slots_more schema docs doc) more);
      sized = ap (λ (w : Written). w.block_size) c.in_ok-store.ensures.ok ∙ (sized_kept was (slot schema doc) ∙ h.sized);
    }
