use Rattle.std.proofs.Common.{[], ap, append-nil, append_assoc, arith, false, length, slice_index, sym, take, true, ◌++◌, ◌<◌, ◌∙◌, ◌∷◌, ℕ, List}
use Rattle.std.specs.List.{items_where_true}
use Rattle.merging.proofs.LivingIds.{living_more}
use Rattle.merging.proofs.member_norms.push_living.Goals as goal
use Rattle.merging.proofs.member_norms.push_living.Goals.{else-is_alive, then-is_alive+in_ok-push}

pub loop-doc-preserved : goal.loop-doc-preserved
loop-doc-preserved c =
    let flags = c.args.alive.now in
    let ids : List ℕ = c.args.reader.now in
    let i = c.loop-doc.doc in
    let inside = c.loop-doc-test.true in
    let long = c.num_docs-doc-end.ensures in
    let within : i < length ids = omega (arith, inside, long) in
    let before = items_where_true (take i flags) (take i ids) in
    elim c.if-is_alive.branch [
      | then-is_alive+in_ok-push w ↦
          ap (λ v. v.items) w.out-is ∙ w.in_ok-push.ensures.items
          ∙ ap (λ xs. xs ++ w.fieldnorm_id.result ∷ []) c.loop-doc.invariant
          ∙ ap (λ n. (c.args.out.now.items ++ before) ++ n ∷ []) w.fieldnorm_id.ensures
          ∙ append_assoc c.args.out.now.items before (slice_index ids i ∷ [])
          ∙ ap (λ xs. c.args.out.now.items ++ xs) (sym (living_more i flags ids true within c.requires (sym c.is_alive.ensures ∙ w.if-is_alive.true)))
      | else-is_alive w ↦
          ap (λ v. v.items) w.out-is ∙ c.loop-doc.invariant
          ∙ ap (λ xs. c.args.out.now.items ++ xs) (sym (living_more i flags ids false within c.requires (sym c.is_alive.ensures ∙ w.if-is_alive.false) ∙ append-nil before))
    ]
