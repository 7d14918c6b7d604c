use Rattle.std.proofs.Common.{[], List, Some, ap, ap₂, arith, drop, false, length, set, suc, sym, true, ◌+◌, ◌<◌, ◌≡◌, ◌≢◌, ◌∙◌}
use Rattle.std.specs.List.{slice_index_or}
use Rattle.segment_reader.specs.Dictionaries.{Placed}
use Rattle.merging.proofs.MergerSteps.{begun_passed, but_all, but_left, but_least, but_next, but_there, changed_but, first_passed, other_left, same_there}
use Rattle.merging.specs.KeyLists.{begins_with, first_key, past_key}
use Rattle.merging.proofs.term_merger.pass_first.Goals as goal
use Rattle.merging.proofs.term_merger.pass_first.Goals.{then-number-least+then-begin_alike, else-number-least, else-number-least-via-then-number-least+else-begin_alike, else-number-least-via-else-number-least}

pub loop-number-preserved : goal.loop-number-preserved
loop-number-preserved c key first =
    let xs = c.args.members.now in
    let least = c.args.least in
    let i = c.loop-number.number in
    let f : List Placed → List Placed = past_key key in
    let inv = c.loop-number.invariant key first in
    let inside = c.loop-number-test.true in
    let within : i < length xs = omega (arith, inside) in
    let next : changed_but f least [] (suc i) xs ≡ changed_but f least [] (i + 1) xs = ap (λ n. changed_but f least [] n xs) (let e : suc i ≡ i + 1 = omega arith in e) in
    let leads : first_key (slice_index_or c.loop-number.members least []) ≡ Some key = ap (λ ms. first_key (slice_index_or ms least [])) inv ∙ ap first_key (but_least f least [] xs i c.requires) ∙ first in
    let long = c.loop-number.auto.members in
    elim c.if-number-least.branch [
      | then-number-least+then-begin_alike w ↦
          let other : i ≢ least = w.if-number-least.true in
          let here = ap (λ ms. slice_index_or ms i []) inv ∙ but_there f least [] xs i other in
          let begins : begins_with key (slice_index_or xs i []) ≡ true = ap (begins_with key) (sym here) ∙ sym (w.begin_alike.ensures key leads) ∙ w.if-begin_alike.true in
          let item = same_there c.loop-number.members i w.index-members-number.result [] (omega (arith, within, long)) ∙ here in
          w.members-is ∙ ap₂ (λ ms m. set ms i m) inv (w.advance.ensures ∙ ap (drop 1) item ∙ begun_passed key (slice_index_or xs i []) begins) ∙ but_next f least [] xs i within other ∙ next
      | else-number-least w ↦
          elim w.else-number-least.branch [
            | else-number-least-via-then-number-least+else-begin_alike v ↦
                let other : i ≢ least = v.if-number-least.true in
                let here = ap (λ ms. slice_index_or ms i []) inv ∙ but_there f least [] xs i other in
                let none : begins_with key (slice_index_or xs i []) ≡ false = ap (begins_with key) (sym here) ∙ sym (v.begin_alike.ensures key leads) ∙ v.if-begin_alike.false in
                w.members-is ∙ inv ∙ but_left f least [] xs i within (λ apart. other_left key (slice_index_or xs i []) none) ∙ next
            | else-number-least-via-else-number-least v ↦
                w.members-is ∙ inv ∙ but_left f least [] xs i within (λ apart. absurd (apart v.if-number-least.false)) ∙ next
          ]
    ]

pub returns : goal.returns
returns c key first =
    let xs = c.args.members.now in
    let least = c.args.least in
    let i = c.loop-number.number in
    let f : List Placed → List Placed = past_key key in
    let inv = c.loop-number.invariant key first in
    let long = c.loop-number.auto.members in
    let within = c.requires in
    let item = same_there c.loop-number.members least c.index-members-least.result [] (omega (arith, within, long)) ∙ ap (λ ms. slice_index_or ms least []) inv ∙ but_least f least [] xs i within in
    ap₂ (λ ms m. set ms least m) inv (c.advance-2.ensures ∙ ap (drop 1) item ∙ first_passed key (slice_index_or xs least []) first)
    ∙ but_all f least [] xs i c.loop-number-test.false
