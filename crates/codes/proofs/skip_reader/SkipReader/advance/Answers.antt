use Rattle.std.proofs.Common.{ap, arith, length, ◌+◌, ◌-◌, ◌∙◌}
use Rattle.codes.proofs.SkipReading.{entries_follow, passed_one}
use Rattle.codes.specs.SkipBlocks.{entries_of, entry_of, passed, take_entries}
use Rattle.codes.proofs.skip_reader.SkipReader.advance.Goals as goal

pub returns-clause-block : goal.returns-clause-block
returns-clause-block c = λ some.
    (let follow = entries_follow c.self.inside.recorded.counts c.self.inside.recorded.positions c.self.inside.blocks c.self.inside.bytes.now c.first_entry.result.1.now (entry_of c.first_entry.result.0) c.self.invariant.entries_stand (omega arith) c.first_entry.ensures in
    let first = c.compressed_block_size.ensures in
    let second = c.compressed_block_size-2.ensures in
    let sum = c.from.ensures in
    passed_one c.self.inside.recorded.counts c.self.inside.recorded.positions (entries_of (take_entries c.self.inside.recorded.counts c.self.inside.recorded.positions c.self.inside.blocks c.self.inside.bytes.now)) (entries_of (take_entries c.self.inside.recorded.counts c.self.inside.recorded.positions (c.self.inside.blocks - 1) c.first_entry.result.1.now)) (entry_of c.first_entry.result.0) c.self.inside.rest c.self.inside.byte_offset c.self.inside.position_offset (c.self.inside.byte_offset + (c.compressed_block_size.result + c.compressed_block_size-2.result)) (c.self.inside.position_offset + c.from.result) follow.0 (omega (arith, first, second)) (omega (arith, sum))
    ∙ ap (passed 1) c.self.view_is)

pub returns-clause-rest : goal.returns-clause-rest
returns-clause-rest c = λ none.
    (let follow = entries_follow c.self.inside.recorded.counts c.self.inside.recorded.positions c.self.inside.blocks c.self.inside.bytes.now c.first_entry.result.1.now (entry_of c.first_entry.result.0) c.self.invariant.entries_stand (omega arith) c.first_entry.ensures in
    let left = ap (λ s. length s.left) c.self.view_is in
    let long = ap length follow.0 in
    absurd (omega (arith, left, long, none)))
