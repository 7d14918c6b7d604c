use Rattle.std.proofs.Common.{arith, drop, get_or, length, subst, ◌+◌, ◌-◌, ◌<◌, ◌≡◌, ap}
use Rattle.phrases.proofs.Counts.{ascends-drop, count-over, count-passed, count-step}
use Rattle.phrases.proofs.MergeLaws.{Ascends-past, step-by-tests, step-few}
use Rattle.phrases.specs.MergeLaws.{IsStep}
use Rattle.phrases.specs.PrefixEntries.{continued}
use Rattle.phrases.proofs.shared_positions.count_continued.Goals as goal

pub loop-i-preserved : goal.loop-i-preserved
loop-i-preserved c =
    let inv = c.loop-i.invariant in
    let first = c.loop-i.i in
    let i = c.pass_places-i.result in
    let j = c.loop-i.j in
    let moved = c.args.moved in
    let places = c.args.places.now in
    let positions = c.args.positions.now in
    let kept = c.from-count.result in
    let passed = c.from-i.result in
    let skipped = c.from-j.result in
    let count = inv.count in
    let counted = inv.few in
    let further = c.pass_places-i.ensures.from in
    let within : i < length places = c.pass_places-i.ensures.within in
    let inside : j < length positions = omega (arith, c.if-j-positions.true) in
    let p = c.from.ensures in
    let m = c.from-in-loop-i.ensures in
    let q = c.from-position.ensures in
    let place : c.from.result + c.from-in-loop-i.result ≡ get_or places i 0 + moved = omega (arith, p, m) in
    let test = step-by-tests (c.from.result + c.from-in-loop-i.result) c.from-position.result kept passed skipped c.from-count.ensures c.from-i.ensures c.from-j.ensures in
    let step : IsStep (get_or places i 0 + moved) (get_or positions j 0) kept passed skipped = subst (λ l. IsStep l (get_or positions j 0) kept passed skipped) place (subst (λ r. IsStep (c.from.result + c.from-in-loop-i.result) r kept passed skipped) q test) in
    let few = step-few (get_or places i 0 + moved) (get_or positions j 0) kept passed skipped step in
    let rises = ascends-drop 0 i places c.requires.places in
    let all = count-step moved i j kept passed skipped places positions within inside rises inv.positions step in
    let left : first + (i - first) ≡ i = omega (arith, further) in
    let before = count-passed moved first j (i - first) places positions (omega (arith, within, further)) inside inv.positions
    (λ k f t. (let low = c.pass_places-i.ensures.passed k f (omega (arith, t, left)) in omega (arith, low, q))) in
    let same = ap (λ n. continued moved (drop n places) (drop j positions)) left in
    record {
      within = omega (arith, within, few.1);
      inside = omega (arith, inside, few.2);
      few = omega (arith, counted, few.0, further);
      positions = Ascends-past j skipped positions inside few.2 inv.positions;
      count = omega (arith, all, count, before, same);
    }

pub loop-i-smaller : goal.loop-i-smaller
loop-i-smaller c =
    let within = c.pass_places-i.ensures.within in
    let further = c.pass_places-i.ensures.from in
    let inside : c.loop-i.j < length c.args.positions.now = omega (arith, c.if-j-positions.true) in
    let few = step-few (c.from.result + c.from-in-loop-i.result) c.from-position.result c.from-count.result c.from-i.result c.from-j.result (step-by-tests (c.from.result + c.from-in-loop-i.result) c.from-position.result c.from-count.result c.from-i.result c.from-j.result c.from-count.ensures c.from-i.ensures c.from-j.ensures) in
    omega (arith, within, inside, further, few.3)

pub returns-else-j-positions : goal.returns-else-j-positions
returns-else-j-positions c = (let none = count-over c.args.moved c.loop-i.i c.loop-i.j c.args.places.now c.args.positions.now (omega (arith, c.if-j-positions.false)) in let count = c.loop-i.invariant.count in omega (arith, none, count))
