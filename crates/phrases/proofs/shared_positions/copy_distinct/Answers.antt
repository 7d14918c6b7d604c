use Rattle.std.proofs.Common.{[], ap, arith, drop, get_or, length, sym, vec_capacity, vec_len, ◌++◌, ◌+◌, ◌<◌, ◌∙◌, ◌∷◌, ◌≡◌, ◌≤◌, ℕ}
use Rattle.std.proofs.lemmas.List.{append_assoc}
use Rattle.phrases.specs.Places.{distinct}
use Rattle.phrases.proofs.MergeLaws.{Ascends-lower, Ascends-step, distinct-in, distinct-out}
use Rattle.phrases.proofs.shared_positions.copy_distinct.Goals as goal
use Rattle.phrases.proofs.shared_positions.copy_distinct.Goals.{else-p-next, then-p-next}

pub loop-i-preserved : goal.loop-i-preserved
loop-i-preserved c =
    let inv = c.loop-i.invariant in
    let i = c.loop-i.i in
    let ps = c.args.positions.now in
    let p : ℕ = get_or ps i 0 in
    let within : i < length ps = omega (arith, c.loop-i-test.true) in
    let step = Ascends-step 0 i ps within inv.ascends in
    let few = inv.few in
    let ascends = Ascends-lower 0 p (drop (i + 1) ps) (omega arith) step.1 in
    let read : c.from-p.result ≡ p = c.from-p.ensures in
    elim c.if-p-next.branch [
      | then-p-next w ↦ (let len = w.push_reserved.ensures.len in
          let low : c.loop-i.next ≤ p = omega (arith, read, w.if-p-next.true) in
          let fits = c.type_inv.positions i in
          let next = w.next-is ∙ ap (λ n. n + 1) read in
          let output = w.output-is in
          record {
            ascends = ascends;
            items = ap (λ o. o.items ++ distinct c.if-p-next.next (drop (i + 1) ps)) output
                ∙ (ap (λ xs. xs ++ distinct c.if-p-next.next (drop (i + 1) ps)) w.push_reserved.ensures.items
                ∙ (append_assoc c.loop-i.output.items (p ∷ []) (distinct c.if-p-next.next (drop (i + 1) ps))
                ∙ (ap (λ n. c.loop-i.output.items ++ p ∷ distinct n (drop (i + 1) ps)) next
                ∙ (ap (λ xs. c.loop-i.output.items ++ xs) (sym (distinct-in c.loop-i.next i ps within low))
                ∙ inv.items))));
            few = (let same = ap vec_len output in omega (arith, same, len, few));
            room = ap vec_capacity output ∙ (w.push_reserved.ensures.capacity ∙ inv.room);
            small = (let small : p < 4294967296 = omega (arith, fits) in omega (arith, next, small));
          })
      | else-p-next w ↦ (let high : p < c.loop-i.next = omega (arith, read, w.if-p-next.false) in
          let same = ap vec_len w.output-is in
          let small = inv.small in
          let next = w.next-is in
          record {
            ascends = ascends;
            items = ap (λ o. o.items ++ distinct c.if-p-next.next (drop (i + 1) ps)) w.output-is
                ∙ (ap (λ n. c.loop-i.output.items ++ distinct n (drop (i + 1) ps)) next
                ∙ (ap (λ xs. c.loop-i.output.items ++ xs) (sym (distinct-out c.loop-i.next i ps within high))
                ∙ inv.items));
            few = omega (arith, same, few);
            room = ap vec_capacity w.output-is ∙ inv.room;
            small = omega (arith, next, small);
          })
    ]
