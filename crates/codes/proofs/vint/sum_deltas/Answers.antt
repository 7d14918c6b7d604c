use Rattle.std.proofs.Common.{ap, arith, get_or, length, rules, ◌+◌, ◌<◌, ◌≡◌, ◌^◌}
use Rattle.codes.proofs.SumsOfDeltas.{next_sum, sum_more}
use Rattle.codes.proofs.vint.sum_deltas.Goals as goal

pub loop-index-preserved : goal.loop-index-preserved
loop-index-preserved c =
    let inside : c.loop-index.index < length c.loop-index.output = omega arith in
    let is : c.loop-index.least + c.from.result ≡ c.loop-index.least + get_or c.loop-index.output c.loop-index.index 0 = ap (λ x. c.loop-index.least + x) c.from.ensures in
    let small : c.loop-index.least + c.from.result < 2 ^ 32 = next_sum c.args.next c.args.count c.args.output.now c.loop-index.index c.loop-index.least (c.loop-index.least + c.from.result) c.loop-index.output c.loop-index.invariant c.requires.small (omega arith) inside is in
    sum_more c.args.next c.args.count c.args.output.now c.loop-index.index c.loop-index.least (c.loop-index.least + c.from.result) c.loop-index.output c.loop-index.invariant (omega arith) inside is small

pub overflow_cast-output : goal.overflow_cast-output
overflow_cast-output c =
    let inside : c.loop-index.index < length c.loop-index.output = omega arith in
    let is : c.loop-index.least + c.from.result ≡ c.loop-index.least + get_or c.loop-index.output c.loop-index.index 0 = ap (λ x. c.loop-index.least + x) c.from.ensures in
    let small : c.loop-index.least + c.from.result < 2 ^ 32 = next_sum c.args.next c.args.count c.args.output.now c.loop-index.index c.loop-index.least (c.loop-index.least + c.from.result) c.loop-index.output c.loop-index.invariant c.requires.small (omega arith) inside is in
    search rules
