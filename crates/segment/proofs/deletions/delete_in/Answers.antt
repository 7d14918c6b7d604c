use Rattle.std.proofs.Common.{arith, length, ◌+◌, ◌∙◌, ◌≤◌}
use Rattle.definitions.specs.Recorded.{holds}
use Rattle.segment.proofs.Reading.{documents_many}
use Rattle.segment_definitions.proofs.Deletings.{struck_whole}
use Rattle.segment.proofs.deletions.delete_in.Goals as goal

pub returns-clause-dead : goal.returns-clause-dead
returns-clause-dead c schema analyze docs stands =
    let told = c.num_docs.ensures in
    let many = documents_many schema analyze docs c.args.segment.now stands in
    let end = c.num_docs.result in
    let whole : 0 + length docs ≤ 0 + end = omega (arith, told, many) in
    c.delete_before.ensures.dead schema analyze 0 docs stands ∙ struck_whole (holds schema analyze) c.args.term.now (0 + end) 0 docs c.args.alive.now whole
