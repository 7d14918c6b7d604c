use Rattle.std.proofs.Common.{arith, length, rules, ◌<◌, ◌≡◌, ◌^◌}
use Rattle.segment_reader.proofs.WalkSteps.{walk_begun}
use Rattle.segment_reader.proofs.term_range.TermRange.new.Goals as goal

pub invariant_of-result : goal.invariant_of-result
invariant_of-result c =
    let items : length c.in_ok-buffer.buffer.items ≡ c.args.shape.longest = search rules in
    let few : c.args.shape.num_terms < 2 ^ 64 = omega arith in
    (omega arith, walk_begun c.args.section.now c.args.shape c.in_ok-buffer.buffer.items c.rest_from.result.now (omega arith) few items c.rest_from.ensures c.requires)
