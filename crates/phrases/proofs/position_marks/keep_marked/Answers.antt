use Rattle.std.proofs.Common.{Bool, arith, false, get_or, length, set, subst, sym, ◌+◌, ◌<◌, ℕ}
use Rattle.std.proofs.lemmas.List.{get_or_read}
use Rattle.std.proofs.lemmas.List.Filters.{FiltersInPlace, FiltersInPlace-more_set}
use Rattle.phrases.proofs.MarkLaws.{kept-out, left-as-it-was}
use Rattle.phrases.proofs.position_marks.keep_marked.Goals as goal
use Rattle.phrases.proofs.position_marks.keep_marked.Goals.{else-marks-p, then-marks-p}

pub bounds-marks-p : goal.bounds-marks-p
bounds-marks-p c =
    let kept = c.loop-i.invariant.kept in
    let xs = c.args.positions.now.items in
    let ys = c.loop-i.positions.items in
    let i = c.loop-i.i in
    let within : i < length xs = omega (arith, c.loop-i-test.true) in
    let long = kept.long in
    let read = get_or_read ys i c.index-p.result.now (omega (arith, within, long)) c.index-p.ensures 0 in
    let same = left-as-it-was xs ys i kept.rest in
    let below = c.requires.below i within in
    omega (arith, read, same, below)

pub loop-i-preserved : goal.loop-i-preserved
loop-i-preserved c =
    let f : ℕ → Bool = λ p. get_or c.args.marks.now p false in
    let xs = c.args.positions.now.items in
    let ys = c.loop-i.positions.items in
    let i = c.loop-i.i in
    let n = c.loop-i.count in
    let x = c.index-p.result.now in
    let kept : FiltersInPlace f xs ys n i = c.loop-i.invariant.kept in
    let long = kept.long in
    let within : i < length ys = omega (arith, c.loop-i-test.true, long) in
    let after : FiltersInPlace f xs (set ys n x) c.if-marks-p.count (i + 1) = elim c.if-marks-p.branch [
      | then-marks-p w ↦ subst (λ k. FiltersInPlace f xs (set ys n x) k (i + 1)) (sym w.count-is) (FiltersInPlace-more_set kept within w.if-marks-p.true c.index-p.ensures)
      | else-marks-p w ↦ subst (λ k. FiltersInPlace f xs (set ys n x) k (i + 1)) (sym w.count-is) (kept-out f xs ys n i x kept within w.if-marks-p.false c.index-p.ensures)
    ] in
    record {
      kept = after;
      room = c.loop-i.invariant.room;
    }
