use Rattle.std.proofs.Common.{IsSome, ap, ap₂, arith, drop, length, map, rules, subst, sum, sym, take, vec_capacity, ◌++◌, ◌+◌, ◌<◌, ◌∙◌, ◌≡◌}
use Rattle.std.proofs.Math.Logic.{∥∥₁_map}
use Rattle.segment_postings.proofs.BoundedCounts.{still_told, told_room}
use Rattle.segment_postings.proofs.EntryMoves.{count_within, positions_there, stands_within}
use Rattle.segment_postings.specs.CountBounds.{TellCounts}
use Rattle.segment_postings.specs.Cursors.{counts_left, docs_left, entries_left}
use Rattle.docsets.specs.Entries.{first_positions, highest, single}
use Rattle.codes.specs.PositionPlaces.{places}
use Rattle.codes.specs.UnpackedBlocks.{listed}
use Rattle.segment_postings.proofs.segment_postings.SegmentPostingsPostings.append_positions_with_offset.Goals.{After-positions_before-begin}
use Rattle.segment_postings.proofs.segment_postings.SegmentPostingsPostings.append_positions_with_offset.Goals as goal

there : (c : After-positions_before-begin) → single (first_positions (entries_left c.args.self.now)) ≡ places 0 (take c.freq-count.result (drop c.positions_before-begin.result (listed c.args.self.now.positions)))
there c =
    let docs = docs_left c.args.self.now.blocks in
    let counts = counts_left c.args.self.now.blocks in
    let numbers = listed c.args.self.now.positions in
    let behind = drop (c.args.self.now.blocks.skips.position_offset + sum (take c.args.self.now.cur counts)) numbers in
    let within = stands_within c.args.self.now.cur docs (drop c.args.self.now.cur counts) behind c.requires.on in
    positions_there c.args.self.now.cur docs counts behind within ∙ ap₂ (λ k m. places 0 (take k (drop m numbers))) (sym c.freq-count.ensures) (sym c.positions_before-begin.ensures.value)

pub append_positions-requires-clause-room : goal.append_positions-requires-clause-room
append_positions-requires-clause-room c = λ some.
    (let room = told_room _ c.args.self.now.blocks.skips (counts_left c.args.self.now.blocks) (c.args.self.now.told some) in
    let one = count_within c.args.self.now.cur (counts_left c.args.self.now.blocks) in
    let count = c.freq-count.ensures in
    let begin = c.positions_before-begin.ensures.value in
    omega (arith, room, one, count, begin))

pub append_positions-requires-clause-fits : goal.append_positions-requires-clause-fits
append_positions-requires-clause-fits c =
    let same = ap highest (there (goal.at.append_positions-requires-clause-fits c).After-positions_before-begin) in
    let fits = c.requires.fits in
    omega (arith, same, fits)

pub invariant_of-self-clause-told : goal.invariant_of-self-clause-told
invariant_of-self-clause-told c = λ some.
    (let same = c.append_positions.ensures.same in
    let old = c.args.self.now.blocks in
    let new = c.positions_before-begin.new.self in
    let offset = c.positions_before-begin.ensures.offset in
    let total = ap sum c.positions_before-begin.ensures.counts in
    ∥∥₁_map (c.args.self.now.told (subst IsSome same some)) (λ known. subst (λ o. TellCounts (length (listed o)) new.skips (counts_left new)) (sym same) (still_told 0 _ old.skips new.skips (counts_left old) (counts_left new) c.positions_before-begin.ensures.entries c.positions_before-begin.ensures.counts (omega (arith, offset, total)) known)))

pub returns-in_err-append_positions-clause-full : goal.returns-in_err-append_positions-clause-full
returns-in_err-append_positions-clause-full c =
    let is = there (goal.at.returns-in_err-append_positions-clause-full c).After-positions_before-begin in
    let same = ap (λ ps. length (c.args.output.now.items ++ map (λ p. p + c.args.offset) ps)) is in
    let full = c.in_err-append_positions.ensures.full in
    let short : vec_capacity c.args.output.now < length (c.args.output.now.items ++ map (λ p. p + c.args.offset) (single (first_positions (entries_left c.args.self.now)))) = omega (arith, same, full) in
    search rules

pub returns-clause-ok : goal.returns-clause-ok
returns-clause-ok c = c.in_ok-append_positions.ensures.ok ∙ ap (λ ps. c.args.output.now.items ++ map (λ p. p + c.args.offset) ps) (sym (there (goal.at.returns-clause-ok c).After-positions_before-begin))
