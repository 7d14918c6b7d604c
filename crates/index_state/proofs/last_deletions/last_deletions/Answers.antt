use Rattle.std.proofs.Common.{[], List, true, ap, arith, drop, length, map, subst, sym, ◌+◌, ◌++◌, ◌<◌, ◌∙◌, ◌∷◌, ◌||◌, ◌≡◌}
use Rattle.std.specs.List.{AllByRecursion, list_any}
use Rattle.std.proofs.lemmas.List.{drop-drop, drop-map, drop_all}
use Rattle.std.proofs.lemmas.List.Sorted.{list_any-IsPermutation}
use Rattle.definitions.proofs.Lists.{all_drop, all_first, all_push}
use Rattle.index_state.proofs.RepeatedDeletions.{any-kept, any-over, any-repeated, small-moved}
use Rattle.segment_search.proofs.Places.{rest_is}
use Rattle.index_state.specs.Deletions.{IsSmall, is_repeated}
use Rattle.index_state.specs.declared.deletions.Deletion.{Deletion}
use Rattle.index_state.proofs.last_deletions.last_deletions.Goals as goal
use Rattle.index_state.proofs.last_deletions.last_deletions.Goals.{else-not-is_repeated, then-not-is_repeated+in_ok-copy_of+in_ok-push}

pub loop-at-init : goal.loop-at-init
loop-at-init c =
    let all = map (λ d. d.now) c.in_ok-sorted.sorted.items in record {
      any = λ n test small passes.
          ap (λ xs. list_any test xs || list_any test all) c.new-last.ensures.items
          ∙ sym (list_any-IsPermutation test c.args.deletions.now all c.in_ok-sorted.ensures);
      small = λ n small. subst (AllByRecursion (IsSmall n)) (sym c.new-last.ensures.items) tt;
    }

pub loop-at-preserved : goal.loop-at-preserved
loop-at-preserved c =
    let l = c.loop-at in
    let at = l.at in
    let sorted = c.in_ok-sorted.sorted.items in
    let all : List Deletion = map (λ d. d.now) sorted in
    let inv = l.invariant in
    elim c.if-not-is_repeated.branch [
      | then-not-is_repeated+in_ok-copy_of+in_ok-push w ↦
          let x = w.index.result.now in
          let d : Deletion = x.now in
          let rest : List Deletion = map (λ d. d.now) (drop (at + 1) sorted) in
          let past = c.loop-at-test.true in
          let long = c.len-at-end.ensures in
          let within : at < length sorted = omega (arith, past, long) in
          let here : map (λ d. d.now) (drop at sorted) ≡ d ∷ rest = ap (λ xs. map (λ d. d.now) xs) (rest_is sorted at x within w.index.ensures) in
          let more : c.if-not-is_repeated.last.items ≡ l.last.items ++ d ∷ [] = ap (λ v. v.items) w.last-is ∙ w.in_ok-push.ensures.items ∙ ap (λ e. l.last.items ++ e ∷ []) w.in_ok-copy_of.ensures in
          record {
            any = λ n test small passes. any-kept test d l.last.items c.if-not-is_repeated.last.items rest (map (λ d. d.now) (drop at sorted)) here more ∙ inv.any n test small passes;
            small = λ n small.
                let smalls = all_drop (IsSmall n) at all (small-moved n c.args.deletions.now all c.in_ok-sorted.ensures small) in
                let one = all_first (IsSmall n) (drop at all) d rest (drop-map (λ d. d.now) at sorted ∙ here) smalls in
                subst (AllByRecursion (IsSmall n)) (sym more) (all_push (IsSmall n) l.last.items d (inv.small n small) one.0);
          }
      | else-not-is_repeated w ↦
          let same = ap (λ v. v.items) w.last-is in
          let left : is_repeated (drop at all) ≡ true = sym (w.if-not-is_repeated.ensures ∙ ap (λ ds. is_repeated (drop at (map (λ d. d.now) ds))) c.deref.ensures.value) in
          let next : drop 1 (drop at all) ≡ map (λ d. d.now) (drop (at + 1) sorted) = drop-drop 1 at all ∙ drop-map (λ d. d.now) (at + 1) sorted in
          record {
            any = λ n test small passes.
                ap (λ xs. list_any test xs || list_any test (map (λ d. d.now) (drop (at + 1) sorted))) same
                ∙ ap (λ ds. list_any test l.last.items || list_any test ds) (sym next)
                ∙ ap (λ b. list_any test l.last.items || b) (sym (any-repeated n test (drop at all) passes (all_drop (IsSmall n) at all (small-moved n c.args.deletions.now all c.in_ok-sorted.ensures small)) left))
                ∙ ap (λ ds. list_any test l.last.items || list_any test ds) (drop-map (λ d. d.now) at sorted)
                ∙ inv.any n test small passes;
            small = λ n small. subst (AllByRecursion (IsSmall n)) (sym same) (inv.small n small);
          }
    ]

pub returns-clause-any : goal.returns-clause-any
returns-clause-any c n test small passes =
    let sorted = c.in_ok-sorted.sorted.items in
    any-over test c.loop-at.last.items (map (λ d. d.now) (drop c.loop-at.at sorted)) (ap (λ xs. map (λ d. d.now) xs) (drop_all c.loop-at.at sorted (let past = c.loop-at-test.false in let long = c.len-at-end.ensures in omega (arith, past, long))))
    ∙ c.loop-at.invariant.any n test small passes
