use Rattle.std.proofs.Common.{[], ap, arith, drop, filter, get_or, length, set, subst, sym, take, ◌++◌, ◌+◌, ◌<◌, ◌∙◌, ◌≡◌, ℕ}
use Rattle.std.proofs.lemmas.List.{append-nil, get_or_read, length-set}
use Rattle.phrases.specs.Places.{Ascends, has}
use Rattle.phrases.proofs.MergeLaws.{Ascends-past, merge-end, merge-over, merge-step, step-by-tests, step-few, written}
use Rattle.phrases.specs.MergeLaws.{IsStep}
use Rattle.phrases.proofs.shared_positions.intersection.Goals as goal
use Rattle.phrases.proofs.shared_positions.intersection.Goals.{else-loop-i-test, then-loop-i-test+else-j-right}

pub loop-i-preserved : goal.loop-i-preserved
loop-i-preserved c =
    let inv = c.loop-i.invariant in
    let i = c.loop-i.i in
    let j = c.loop-i.j in
    let n = c.loop-i.count in
    let left = c.loop-i.left.items in
    let right = c.args.right.now in
    let x : ℕ = c.index.result.now in
    let kept = c.from-count.result in
    let passed = c.from-i.result in
    let skipped = c.from-j.result in
    let before = inv.before in
    let within : i < length left = omega (arith, c.loop-i-test.true) in
    let inside : j < length right = omega (arith, c.if-j-right.true) in
    let read : x ≡ get_or left i 0 = get_or_read left i x within c.index.ensures 0 in
    let test = step-by-tests x (get_or right j 0) kept passed skipped c.from-count.ensures c.from-i.ensures c.from-j.ensures in
    let step : IsStep (get_or left i 0) (get_or right j 0) kept passed skipped = subst (λ l. IsStep l (get_or right j 0) kept passed skipped) read test in
    let few = step-few (get_or left i 0) (get_or right j 0) kept passed skipped step in
    let long = length-set left n x in
    let same : drop i (set left n x) ≡ drop i left = ap (λ l. drop i (set left n l)) read ∙ written i n left before in
    record {
      within = omega (arith, within, long, few.1);
      before = omega (arith, before, few.0);
      inside = omega (arith, inside, few.2);
      left_ascends = Ascends-past i passed (set left n x) (omega (arith, within, long)) few.1 (subst (Ascends 0) (sym same) inv.left_ascends);
      ascends = Ascends-past j skipped right inside few.2 inv.ascends;
      items = ap (λ l. take (n + kept) (set left n l) ++ filter (has (drop (j + skipped) right)) (drop (i + passed) (set left n l))) read
          ∙ (merge-step i j n kept passed skipped left right within inside before inv.left_ascends inv.ascends step ∙ inv.items);
      room = inv.room;
    }

pub loop-i-smaller : goal.loop-i-smaller
loop-i-smaller c =
    let i = c.loop-i.i in
    let j = c.loop-i.j in
    let left = c.loop-i.left.items in
    let right = c.args.right.now in
    let x : ℕ = c.index.result.now in
    let within : i < length left = omega (arith, c.loop-i-test.true) in
    let inside : j < length right = omega (arith, c.if-j-right.true) in
    let few = step-few x (get_or right j 0) c.from-count.result c.from-i.result c.from-j.result (step-by-tests x (get_or right j 0) c.from-count.result c.from-i.result c.from-j.result c.from-count.ensures c.from-i.ensures c.from-j.ensures) in
    let long = length-set left c.loop-i.count x in
    omega (arith, within, inside, long, few.3)

pub returns-clause-items : goal.returns-clause-items
returns-clause-items c =
    let inv = c.loop-i.invariant in
    let i = c.loop-i.i in
    let j = c.loop-i.j in
    let left = c.loop-i.left.items in
    let right = c.args.right.now in
    let kept : filter (has (drop j right)) (drop i left) ≡ [] = elim c.loop-i-test.branch [
      | then-loop-i-test+else-j-right w ↦ merge-over i j left right (omega (arith, w.if-j-right.false))
      | else-loop-i-test w ↦ merge-end i j left right (omega (arith, w.loop-i-test.false))
    ] in
    c.truncate.ensures.items ∙ (sym (append-nil (take c.loop-i.count left)) ∙ (ap (λ xs. take c.loop-i.count left ++ xs) (sym kept) ∙ inv.items))
