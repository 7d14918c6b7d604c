use Rattle.std.proofs.Common.{ap, arith, option_map, ◌<◌, ◌^◌}
use Rattle.segment_reader.proofs.AliveCounts.{alive_fit}
use Rattle.segment_reader.proofs.segment_reader.SegmentReader.num_docs.Goals as goal

-- src/segment_reader.rt:57:28
pub overflow_cast-result : goal.overflow_cast-result
overflow_cast-result c =
    let few = c.args.self.now.few in
    let small : c.args.self.now.max_doc < 2 ^ 32 = omega (arith, few) in
    let fit = alive_fit c.args.self.now.max_doc (option_map (λ flags. flags.now) c.args.self.now.alive_bitset) c.in-Some.alive.now c.args.self.now.flagged (ap (option_map (λ flags. flags.now)) c.in-Some.is) small in
    omega (arith, fit, c.num_alive.ensures)
