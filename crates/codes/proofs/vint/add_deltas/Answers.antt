use Rattle.std.proofs.Common.{ap, arith, get_or, length, sym, ◌+◌, ◌<◌, ◌≡◌, ◌≤◌, ◌^◌}
use Rattle.codes.proofs.SumsOfDeltas.{sum_more, sum_past}
use Rattle.codes.proofs.vint.add_deltas.Goals as goal

pub loop-index-preserved : goal.loop-index-preserved
loop-index-preserved c =
    let inside : c.loop-index.index < length c.loop-index.output = omega arith in
    let is : c.loop-index.least + c.from.result ≡ c.loop-index.least + get_or c.loop-index.output c.loop-index.index 0 = ap (λ x. c.loop-index.least + x) c.from.ensures in
    let small : c.loop-index.least + c.from.result < 2 ^ 32 = omega arith in
    sum_more c.args.next c.args.count c.args.output.now c.loop-index.index c.loop-index.least (c.loop-index.least + c.from.result) c.loop-index.output c.loop-index.invariant (omega arith) inside is small

pub returns-then-document-from-clause-value : goal.returns-then-document-from-clause-value
returns-then-document-from-clause-value c =
    let inside : c.loop-index.index < length c.loop-index.output = omega arith in
    let is : c.loop-index.least + c.from.result ≡ c.loop-index.least + get_or c.loop-index.output c.loop-index.index 0 = ap (λ x. c.loop-index.least + x) c.from.ensures in
    let great : 2 ^ 32 ≤ c.loop-index.least + c.from.result = omega arith in
    sym (sum_past c.args.next c.args.count c.args.output.now c.loop-index.index c.loop-index.least (c.loop-index.least + c.from.result) c.loop-index.output c.loop-index.invariant (omega arith) inside is great)
