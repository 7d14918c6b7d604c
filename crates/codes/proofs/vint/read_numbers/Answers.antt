use Rattle.std.proofs.Common.{IsSome, arith, length, subst, take, ◌<◌, ◌≡◌}
use Rattle.codes.proofs.VintLists.{all_read, first_of_numbers, number_read, numbers_follow}
use Rattle.codes.proofs.vint.read_numbers.Goals as goal

pub loop-index-preserved : goal.loop-index-preserved
loop-index-preserved c =
    let inside : c.loop-index.index < length c.loop-index.output = omega arith in
    number_read c.args.bytes.now c.loop-index.rest.now c.first_number-number.result.1.now c.loop-index.output c.args.count c.loop-index.index c.first_number-number.result.0 c.loop-index.invariant (omega arith) inside c.first_number-number.ensures

pub overflow_sub-result : goal.overflow_sub-result
overflow_sub-result c =
    let all : c.loop-index.index ≡ c.args.count = omega arith in
    (numbers_follow c.args.count c.args.bytes.now (take c.args.count c.loop-index.output) c.loop-index.rest.now (λ i. (let h = c.type_inv.bytes i in omega arith)) (all_read c.args.bytes.now c.loop-index.rest.now c.loop-index.output c.args.count c.loop-index.index c.loop-index.invariant all)).0

pub returns-clause-numbers : goal.returns-clause-numbers
returns-clause-numbers c =
    let all : c.loop-index.index ≡ c.args.count = omega arith in
    (numbers_follow c.args.count c.args.bytes.now (take c.args.count c.loop-index.output) c.loop-index.rest.now (λ i. (let h = c.type_inv.bytes i in omega arith)) (all_read c.args.bytes.now c.loop-index.rest.now c.loop-index.output c.args.count c.loop-index.index c.loop-index.invariant all)).1

pub first_number-number-requires : goal.first_number-number-requires
first_number-number-requires c = first_of_numbers c.loop-index.rest.now c.loop-index.output c.args.count c.loop-index.index (subst (λ o. IsSome o) c.loop-index.invariant c.requires.layout) (omega arith)
