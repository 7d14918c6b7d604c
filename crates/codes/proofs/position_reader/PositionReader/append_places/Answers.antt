use Rattle.std.proofs.Common.{ap, arith, drop, length, min, refl, sym, take, ◌%◌, ◌*◌, ◌+◌, ◌-◌, ◌≡◌, ◌∙◌, ℕ}
use Rattle.codes.proofs.AppendedPlaces.{appends_fits, appends_on, part_there}
use Rattle.codes.proofs.PositionsOpened.{block_within, held_goes_on}
use Rattle.codes.specs.PositionBlocks.{numbers_in}
use Rattle.codes.proofs.position_reader.PositionReader.append_places.Goals as goal

pub load-requires-clause-within : goal.load-requires-clause-within
load-requires-clause-within c =
    let more = c.loop-taken-test.true in
    let fits = c.requires.within in
    let same : length (numbers_in c.loop-taken.self-inside.widths.now c.loop-taken.self-inside.packed.now) ≡ length c.args.self.now = ap length c.loop-taken.invariant.same in
    block_within c.loop-taken.self-inside.widths.now c.loop-taken.self-inside.packed.now c.args.begin c.loop-taken.taken (omega (arith, same, more, fits))

pub part_from-part-requires : goal.part_from-part-requires
part_from-part-requires c =
    let more = c.loop-taken-test.true in
    let fits = c.requires.within in
    let same : length (numbers_in c.loop-taken.self-inside.widths.now c.loop-taken.self-inside.packed.now) ≡ length c.args.self.now = ap length c.loop-taken.invariant.same in
    let block = c.load.ensures.wanted in
    let on = held_goes_on (numbers_in c.loop-taken.self-inside.widths.now c.loop-taken.self-inside.packed.now) c.output_array.result.now c.load.new.block ((c.args.begin % 128 + c.loop-taken.taken) % 128) (c.output_array.ensures ∙ c.load.ensures.holds.numbers) (omega (arith, same, more, fits, block)) (omega arith) in
    omega (arith, on)

pub push_positions-last-requires-clause-fits : goal.push_positions-last-requires-clause-fits
push_positions-last-requires-clause-fits c =
    let more = c.loop-taken-test.true in
    let fits = c.requires.within in
    let same : length (numbers_in c.loop-taken.self-inside.widths.now c.loop-taken.self-inside.packed.now) ≡ length c.args.self.now = ap length c.loop-taken.invariant.same in
    let block = c.load.ensures.wanted in
    let on = held_goes_on (numbers_in c.loop-taken.self-inside.widths.now c.loop-taken.self-inside.packed.now) c.output_array.result.now c.load.new.block ((c.args.begin % 128 + c.loop-taken.taken) % 128) (c.output_array.ensures ∙ c.load.ensures.holds.numbers) (omega (arith, same, more, fits, block)) (omega arith) in
    let held : c.output_array.result.now ≡ take 128 (drop (128 * c.load.new.block) c.args.self.now) = c.output_array.ensures ∙ c.load.ensures.holds.numbers ∙ ap (λ xs. take 128 (drop (128 * c.load.new.block) xs)) c.loop-taken.invariant.same in
    let n : ℕ = min (c.args.count - c.loop-taken.taken) (length c.output_array.result.now - ((c.args.begin % 128 + c.loop-taken.taken) % 128)) in
    let part = part_there c.args.self.now c.output_array.result.now c.part_from-part.result.now c.args.begin c.loop-taken.taken (c.args.count - c.loop-taken.taken) c.load.new.block ((c.args.begin % 128 + c.loop-taken.taken) % 128) held block refl on c.part_from-part.ensures in
    appends_fits c.args.self.now c.args.begin c.args.count c.args.offset c.args.output.now.items c.loop-taken.taken c.loop-taken.last c.loop-taken.output.items c.part_from-part.result.now n c.loop-taken.invariant.appends (omega arith) part.0 c.requires.fits

pub loop-taken-smaller : goal.loop-taken-smaller
loop-taken-smaller c =
    let more = c.loop-taken-test.true in
    let fits = c.requires.within in
    let same : length (numbers_in c.loop-taken.self-inside.widths.now c.loop-taken.self-inside.packed.now) ≡ length c.args.self.now = ap length c.loop-taken.invariant.same in
    let block = c.load.ensures.wanted in
    let on = held_goes_on (numbers_in c.loop-taken.self-inside.widths.now c.loop-taken.self-inside.packed.now) c.output_array.result.now c.load.new.block ((c.args.begin % 128 + c.loop-taken.taken) % 128) (c.output_array.ensures ∙ c.load.ensures.holds.numbers) (omega (arith, same, more, fits, block)) (omega arith) in
    let held : c.output_array.result.now ≡ take 128 (drop (128 * c.load.new.block) c.args.self.now) = c.output_array.ensures ∙ c.load.ensures.holds.numbers ∙ ap (λ xs. take 128 (drop (128 * c.load.new.block) xs)) c.loop-taken.invariant.same in
    let n : ℕ = min (c.args.count - c.loop-taken.taken) (length c.output_array.result.now - ((c.args.begin % 128 + c.loop-taken.taken) % 128)) in
    let part = part_there c.args.self.now c.output_array.result.now c.part_from-part.result.now c.args.begin c.loop-taken.taken (c.args.count - c.loop-taken.taken) c.load.new.block ((c.args.begin % 128 + c.loop-taken.taken) % 128) held block refl on c.part_from-part.ensures in
    let long = part.1 in
    omega (arith, long, on, more)

pub loop-taken-preserved : goal.loop-taken-preserved
loop-taken-preserved c =
    let more = c.loop-taken-test.true in
    let fits = c.requires.within in
    let same : length (numbers_in c.loop-taken.self-inside.widths.now c.loop-taken.self-inside.packed.now) ≡ length c.args.self.now = ap length c.loop-taken.invariant.same in
    let block = c.load.ensures.wanted in
    let on = held_goes_on (numbers_in c.loop-taken.self-inside.widths.now c.loop-taken.self-inside.packed.now) c.output_array.result.now c.load.new.block ((c.args.begin % 128 + c.loop-taken.taken) % 128) (c.output_array.ensures ∙ c.load.ensures.holds.numbers) (omega (arith, same, more, fits, block)) (omega arith) in
    let held : c.output_array.result.now ≡ take 128 (drop (128 * c.load.new.block) c.args.self.now) = c.output_array.ensures ∙ c.load.ensures.holds.numbers ∙ ap (λ xs. take 128 (drop (128 * c.load.new.block) xs)) c.loop-taken.invariant.same in
    let n : ℕ = min (c.args.count - c.loop-taken.taken) (length c.output_array.result.now - ((c.args.begin % 128 + c.loop-taken.taken) % 128)) in
    let part = part_there c.args.self.now c.output_array.result.now c.part_from-part.result.now c.args.begin c.loop-taken.taken (c.args.count - c.loop-taken.taken) c.load.new.block ((c.args.begin % 128 + c.loop-taken.taken) % 128) held block refl on c.part_from-part.ensures in
    let long = part.1 in
    let items = c.push_positions-last.ensures.items in
    record {
      holds = c.load.ensures.holds;
      same = c.loop-taken.invariant.same;
      appends = appends_on c.args.self.now c.args.begin c.args.count c.args.offset c.args.output.now.items c.loop-taken.taken c.loop-taken.last c.loop-taken.output.items c.part_from-part.result.now c.push_positions-last.result c.push_positions-last.new.output.items c.loop-taken.invariant.appends (omega (arith, long)) (part.0 ∙ ap (λ k. take k (drop (c.args.begin + c.loop-taken.taken) c.args.self.now)) (sym long)) c.push_positions-last.ensures.last c.push_positions-last.ensures.items;
      room = (let r = c.loop-taken.invariant.room in let k = c.push_positions-last.ensures.room in omega (arith, r, k));
      grown = (let g = c.loop-taken.invariant.grown in let k = c.push_positions-last.ensures.room in omega (arith, g, k));
    }
