use Rattle.std.proofs.Common.{ap, arith, drop, suc, sym, ◌+◌, ◌≡◌, ◌∙◌}
use Rattle.front_coding.proofs.SharedKeys.{shared_cut, shared_ended, shared_last, shared_more}
use Rattle.layouts.specs.TermSections.{shared}
use Rattle.front_coding.proofs.keys.shared_len.Goals as goal

pub returns-else-index-key-clause-value : goal.returns-else-index-key-clause-value
returns-else-index-key-clause-value c =
    let none = shared_cut c.loop-index.index c.args.before.now c.args.key.now (let t = c.if-index-key.false in omega (arith, t)) in
    let whole = c.loop-index.invariant.whole in
    omega (arith, whole, none)

pub returns-else-before-index-clause-value : goal.returns-else-before-index-clause-value
returns-else-before-index-clause-value c =
    let none = shared_last c.loop-index.index c.args.before.now c.args.key.now c.loop-index-test.true c.if-index-key.true c.if-before-index.false in
    let whole = c.loop-index.invariant.whole in
    omega (arith, whole, none)

pub returns-after-loop-index-clause-value : goal.returns-after-loop-index-clause-value
returns-after-loop-index-clause-value c =
    let none = shared_ended c.loop-index.index c.args.before.now c.args.key.now (let t = c.loop-index-test.false in omega (arith, t)) in
    let whole = c.loop-index.invariant.whole in
    omega (arith, whole, none)

pub loop-index-preserved : goal.loop-index-preserved
loop-index-preserved c =
    let more = shared_more c.loop-index.index c.args.before.now c.args.key.now c.loop-index-test.true c.if-index-key.true c.if-before-index.true in
    let whole = c.loop-index.invariant.whole in
    let one = c.loop-index-test.true in
    let two = c.if-index-key.true in
    let next : c.loop-index.index + 1 ≡ suc c.loop-index.index = omega arith in
    record { whole = whole ∙ ap (λ n. c.loop-index.index + n) more ∙ (let same : c.loop-index.index + suc (shared (drop (suc c.loop-index.index) c.args.before.now) (drop (suc c.loop-index.index) c.args.key.now)) ≡ suc c.loop-index.index + shared (drop (suc c.loop-index.index) c.args.before.now) (drop (suc c.loop-index.index) c.args.key.now) = omega arith in same) ∙ ap (λ n. n + shared (drop n c.args.before.now) (drop n c.args.key.now)) (sym next); one = omega (arith, one); two = omega (arith, two) }
