use Rattle.std.proofs.Common.{ap, arith, drop, length, refl, take, ◌%◌, ◌+◌, ◌≡◌, ◌∙◌, ◌*◌}
use Rattle.codes.proofs.PositionsOpened.{block_within, copied_on, held_goes_on}
use Rattle.codes.specs.PositionBlocks.{numbers_in}
use Rattle.codes.proofs.position_reader.PositionReader.read.Goals as goal

pub load-requires-clause-within : goal.load-requires-clause-within
load-requires-clause-within c =
    let long = c.loop-filled.invariant.long in
    let more = c.loop-filled-test.true in
    let fits = c.requires in
    let same : length (numbers_in c.loop-filled.self-inside.widths.now c.loop-filled.self-inside.packed.now) ≡ length c.args.self.now = ap length c.loop-filled.invariant.same in
    block_within c.loop-filled.self-inside.widths.now c.loop-filled.self-inside.packed.now c.args.offset c.loop-filled.filled (omega (arith, same, long, more, fits))

pub copy_from-filled-requires-clause-index : goal.copy_from-filled-requires-clause-index
copy_from-filled-requires-clause-index c =
    let long = c.loop-filled.invariant.long in
    let more = c.loop-filled-test.true in
    let fits = c.requires in
    let same : length (numbers_in c.loop-filled.self-inside.widths.now c.loop-filled.self-inside.packed.now) ≡ length c.args.self.now = ap length c.loop-filled.invariant.same in
    let block = c.load.ensures.wanted in
    let on = held_goes_on (numbers_in c.loop-filled.self-inside.widths.now c.loop-filled.self-inside.packed.now) c.output_array.result.now c.load.new.block ((c.args.offset % 128 + c.loop-filled.filled) % 128) (c.output_array.ensures ∙ c.load.ensures.holds.numbers) (omega (arith, same, long, more, fits, block)) (omega arith) in
    omega arith

pub loop-filled-smaller : goal.loop-filled-smaller
loop-filled-smaller c =
    let long = c.loop-filled.invariant.long in
    let more = c.loop-filled-test.true in
    let fits = c.requires in
    let same : length (numbers_in c.loop-filled.self-inside.widths.now c.loop-filled.self-inside.packed.now) ≡ length c.args.self.now = ap length c.loop-filled.invariant.same in
    let block = c.load.ensures.wanted in
    let on = held_goes_on (numbers_in c.loop-filled.self-inside.widths.now c.loop-filled.self-inside.packed.now) c.output_array.result.now c.load.new.block ((c.args.offset % 128 + c.loop-filled.filled) % 128) (c.output_array.ensures ∙ c.load.ensures.holds.numbers) (omega (arith, same, long, more, fits, block)) (omega arith) in
    let some = c.copy_from-filled.ensures.some on more in
    let after : length c.copy_from-filled.new.output ≡ length c.loop-filled.output = c.copy_from-filled.ensures.long in
    omega (arith, some, after, c.copy_from-filled.ensures.within.1)

pub loop-filled-preserved : goal.loop-filled-preserved
loop-filled-preserved c =
    let after : length c.copy_from-filled.new.output ≡ length c.loop-filled.output = c.copy_from-filled.ensures.long in
    let same = c.loop-filled.invariant.same in
    let long = c.loop-filled.invariant.long in
    let more = c.loop-filled-test.true in
    let fits = c.requires in
    let count : length (numbers_in c.loop-filled.self-inside.widths.now c.loop-filled.self-inside.packed.now) ≡ length c.args.self.now = ap length same in
    let block = c.load.ensures.wanted in
    let on = held_goes_on (numbers_in c.loop-filled.self-inside.widths.now c.loop-filled.self-inside.packed.now) c.output_array.result.now c.load.new.block ((c.args.offset % 128 + c.loop-filled.filled) % 128) (c.output_array.ensures ∙ c.load.ensures.holds.numbers) (omega (arith, count, long, more, fits, block)) (omega arith) in
    let held : c.output_array.result.now ≡ take 128 (drop (128 * c.load.new.block) c.args.self.now) = c.output_array.ensures ∙ c.load.ensures.holds.numbers ∙ ap (λ xs. take 128 (drop (128 * c.load.new.block) xs)) same in
    record {
      holds = c.load.ensures.holds;
      same = same;
      few = (let h = c.copy_from-filled.ensures.within.1 in omega (arith, after));
      long = after ∙ c.loop-filled.invariant.long;
      copied = copied_on c.args.self.now c.output_array.result.now c.loop-filled.output c.copy_from-filled.new.output c.args.offset c.loop-filled.filled c.copy_from-filled.result c.load.new.block ((c.args.offset % 128 + c.loop-filled.filled) % 128) held c.load.ensures.wanted refl c.loop-filled.invariant.copied c.copy_from-filled.ensures.within.0 c.copy_from-filled.ensures.room (omega arith) c.copy_from-filled.ensures.copied;
    }
