use Rattle.std.proofs.Common.{arith, get_or, length, set, subst, sym, ◌+◌, ◌<◌, ◌≡◌, ◌∙◌, ℕ}
use Rattle.std.proofs.lemmas.List.{get_or_default}
use Rattle.std.proofs.lemmas.List.Filters.{FiltersInPlace, FiltersInPlace-more_set}
use Rattle.phrases.specs.Places.{has}
use Rattle.phrases.proofs.MarkLaws.{kept-out}
use Rattle.phrases.proofs.shared_positions.put_shared_first.Goals as goal
use Rattle.phrases.proofs.shared_positions.put_shared_first.Goals.{else-has_position, then-has_position}

pub loop-i-preserved : goal.loop-i-preserved
loop-i-preserved c =
    let f = has c.args.right.now in
    let xs = c.args.left.now in
    let ys = c.loop-i.left in
    let i = c.loop-i.i in
    let n = c.loop-i.count in
    let x : ℕ = get_or ys i 0 in
    let kept : FiltersInPlace f xs ys n i = c.loop-i.invariant.kept in
    let long = kept.long in
    let within : i < length ys = omega (arith, c.loop-i-test.true, long) in
    let read : x ≡ get_or ys i x = get_or_default ys i 0 x within in
    record {
      kept = elim c.if-has_position.branch [
        | then-has_position w ↦ subst (λ k. FiltersInPlace f xs (set ys n x) k (i + 1)) (sym w.count-is) (FiltersInPlace-more_set kept within (sym c.has_position.ensures ∙ w.if-has_position.true) read)
        | else-has_position w ↦ subst (λ k. FiltersInPlace f xs (set ys n x) k (i + 1)) (sym w.count-is) (kept-out f xs ys n i x kept within (sym c.has_position.ensures ∙ w.if-has_position.false) read)
      ];
    }
