use Rattle.std.proofs.Common.{Bool, false, true, List, ap, arith, length, sym, ◌<◌, ◌∙◌}
use Rattle.merging.proofs.Numbers.{all_flags, all_numbers, one_more, room_for}
use Rattle.merging.proofs.doc_id_mapping.DocIdMapping.new.Goals as goal
use Rattle.merging.proofs.doc_id_mapping.DocIdMapping.new.Goals.{then-is_alive+in_ok-push, else-is_alive+in_ok-push-2}

pub overflow_add-end : goal.overflow_add-end
overflow_add-end c =
    let few = c.requires in
    let inside = c.loop-doc-test.true in
    let long = c.len-num_docs.ensures in
    let room = room_for c.args.base c.loop-doc.end c.loop-doc.doc c.args.alive.now (omega (arith, inside, long.len, long.few)) (sym c.is_alive.ensures ∙ c.if-is_alive.true) c.loop-doc.invariant.end few in
    omega (arith, room)

pub loop-doc-preserved : goal.loop-doc-preserved
loop-doc-preserved c =
    let inside = c.loop-doc-test.true in
    let long = c.len-num_docs.ensures in
    let within : c.loop-doc.doc < length c.args.alive.now = omega (arith, inside, long.len, long.few) in
    elim c.if-is_alive.branch [
      | then-is_alive+in_ok-push w ↦
          let s = one_more c.args.base c.loop-doc.end c.loop-doc.doc c.args.alive.now c.loop-doc.new_doc_ids.items true within (sym c.is_alive.ensures ∙ w.if-is_alive.true) c.loop-doc.invariant.docs c.loop-doc.invariant.end in
          record { docs = ap (λ v. v.items) w.new_doc_ids-is ∙ w.in_ok-push.ensures.items ∙ s.0; end = w.end-is ∙ s.1 }
      | else-is_alive+in_ok-push-2 w ↦
          let s = one_more c.args.base c.loop-doc.end c.loop-doc.doc c.args.alive.now c.loop-doc.new_doc_ids.items false within (sym c.is_alive.ensures ∙ w.if-is_alive.false) c.loop-doc.invariant.docs c.loop-doc.invariant.end in
          let e = w.end-is in
          let n = s.1 in
          record { docs = ap (λ v. v.items) w.new_doc_ids-is ∙ w.in_ok-push-2.ensures.items ∙ s.0; end = omega (arith, e, n) }
    ]

pub invariant_of-result : goal.invariant_of-result
invariant_of-result c =
    let past = c.loop-doc-test.false in
    let long = c.len-num_docs.ensures in
    all_numbers c.args.base c.loop-doc.end c.loop-doc.doc c.args.alive.now c.loop-doc.new_doc_ids.items (omega (arith, past, long.len, long.few)) c.requires c.loop-doc.invariant.docs c.loop-doc.invariant.end

pub returns : goal.returns
returns c =
    let past = c.loop-doc-test.false in
    let long = c.len-num_docs.ensures in
    ap (λ (fs : List Bool). record { base = c.args.base; flags = fs })
    (all_flags c.args.base c.loop-doc.end c.loop-doc.doc c.args.alive.now c.loop-doc.new_doc_ids.items (omega (arith, past, long.len, long.few)) c.requires c.loop-doc.invariant.docs c.loop-doc.invariant.end)
