use Rattle.std.proofs.Common.{[], Bool, List, ap, append-nil, append_assoc, arith, false, length, subst, sym, take, true, ◌++◌, ◌+◌, ◌<◌, ◌≡◌, ◌≤◌, ◌∙◌, ◌∷◌, ℕ}
use Rattle.std.proofs.lemmas.List.Sums.{count_by_more_no, count_by_more_yes}
use Rattle.std.proofs.lemmas.Result.{err_from_is_err_and}
use Rattle.std.specs.List.{items_where_true, slice_index_or}
use Rattle.merging.proofs.SlotsLeft.{all_counted, living_all, living_more, slot_refused}
use Rattle.store.proofs.Readers.{hold_length as hold_many}
use Rattle.store.specs.Writing.{HoldsSlots, Written, docs_of}
use Rattle.merging.proofs.living_slots.append_slots.Goals as goal
use Rattle.merging.proofs.living_slots.append_slots.Goals.{else-is_alive, then-is_alive+in_ok-append_slot}

pub loop-doc-preserved : goal.loop-doc-preserved
loop-doc-preserved c =
    let flags = c.args.alive.now in
    let i = c.loop-doc.doc in
    let inv = c.loop-doc.invariant in
    let same = c.requires in
    let inside = c.loop-doc-test.true in
    let end = c.num_docs-doc-end.ensures.count in
    let there : i < length flags = omega (arith, inside, end, same) in
    let before : List (List ℕ) → List (List ℕ) = λ slots. items_where_true (take i flags) (take i slots) in
    elim c.if-is_alive.branch [
      | then-is_alive+in_ok-append_slot w ↦
          let living = sym c.is_alive.ensures ∙ w.if-is_alive.true in
          let more = count_by_more_yes (λ (b : Bool). b) flags i false there living in
          let docs = inv.docs in
          let one = w.in_ok-append_slot.ensures.docs in
          let now = ap docs_of w.writer-is in
          record {
            held = λ held slots holds hold.
                (let many = hold_many c.args.store.now.blocks slots hold in
                let within : i < length slots = omega (arith, many, inside, end) in
                let alike : length slots ≡ length flags = omega (arith, many, same) in
                subst (λ x. HoldsSlots x (held ++ items_where_true (take (i + 1) flags) (take (i + 1) slots))) (sym w.writer-is)
                (subst (λ xs. HoldsSlots w.append_slot.new.writer xs)
                (append_assoc held (before slots) (slice_index_or slots i [] ∷ []) ∙ ap (λ xs. held ++ xs) (sym (living_more i flags slots [] true within alike living)))
                (w.in_ok-append_slot.ensures.ok (held ++ before slots) slots (inv.held held slots holds hold) hold)));
            docs = omega (arith, more, docs, one, now);
            size = ap (λ (x : Written). x.block_size) w.writer-is ∙ w.in_ok-append_slot.ensures.size ∙ inv.size;
          }
      | else-is_alive w ↦
          let dead = sym c.is_alive.ensures ∙ w.if-is_alive.false in
          let more = count_by_more_no (λ (b : Bool). b) flags i false there dead in
          let docs = inv.docs in
          let now = ap docs_of w.writer-is in
          record {
            held = λ held slots holds hold.
                (let many = hold_many c.args.store.now.blocks slots hold in
                let within : i < length slots = omega (arith, many, inside, end) in
                let alike : length slots ≡ length flags = omega (arith, many, same) in
                subst (λ x. HoldsSlots x (held ++ items_where_true (take (i + 1) flags) (take (i + 1) slots))) (sym w.writer-is)
                (subst (λ xs. HoldsSlots c.loop-doc.writer (held ++ xs)) (sym (living_more i flags slots [] false within alike dead ∙ append-nil (before slots)))
                (inv.held held slots holds hold)));
            docs = omega (arith, more, docs, now);
            size = ap (λ (x : Written). x.block_size) w.writer-is ∙ inv.size;
          }
    ]

pub returns-in_err-append_slot-clause-err : goal.returns-in_err-append_slot-clause-err
returns-in_err-append_slot-clause-err c =
    let same = c.requires in
    let inside = c.loop-doc-test.true in
    let end = c.num_docs-doc-end.ensures.count in
    let p = err_from_is_err_and c.from_residual.result c.from_residual.ensures.1 in
    rw (p.1, p.2) (slot_refused c.in_err-append_slot.field-0.0 c.args.writer.now c.loop-doc.writer c.args.alive.now c.loop-doc.doc c.args.store.now.blocks (omega (arith, inside, end, same)) (sym c.is_alive.ensures ∙ c.if-is_alive.true) c.loop-doc.invariant.docs c.loop-doc.invariant.size c.in_err-append_slot.ensures.err)

pub returns-clause-ok : goal.returns-clause-ok
returns-clause-ok c held slots holds hold =
    let many = hold_many c.args.store.now.blocks slots hold in
    let same = c.requires in
    let past = c.loop-doc-test.false in
    let end = c.num_docs-doc-end.ensures.count in
    let long : length slots ≤ c.loop-doc.doc = omega (arith, many, past, end) in
    let alike : length slots ≡ length c.args.alive.now = omega (arith, many, same) in
    subst (λ xs. HoldsSlots c.loop-doc.writer (held ++ xs)) (living_all c.loop-doc.doc c.args.alive.now slots long alike) (c.loop-doc.invariant.held held slots holds hold)

pub returns-clause-docs : goal.returns-clause-docs
returns-clause-docs c =
    let same = c.requires in
    let past = c.loop-doc-test.false in
    let end = c.num_docs-doc-end.ensures.count in
    let docs = c.loop-doc.invariant.docs in
    let whole = all_counted c.loop-doc.doc c.args.alive.now (omega (arith, same, past, end)) in
    omega (arith, docs, whole)
