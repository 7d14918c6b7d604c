use Rattle.std.proofs.Common.{arith, refl, sym, ◌/◌, ◌∙◌, ◌≡◌}
use Rattle.std.proofs.Math.Logic.{∥∥₁_map}
use Rattle.codes.specs.UnpackedBlocks.{listed}
use Rattle.segment_postings.proofs.BoundedCounts.{still_told}
use Rattle.segment_postings.proofs.EntryMoves.{from_index, index_on, single_from}
use Rattle.segment_postings.specs.Cursors.{counts_left, docs_left, entries_left}
use Rattle.docsets.specs.Entries.{from}
use Rattle.segment_postings.specs.Reading.{below}
use Rattle.segment_postings.specs.TermEntries.{entries_from}
use Rattle.segment_postings.proofs.segment_postings.SegmentPostingsDocSet.seek.Goals.{After-seek-self}
use Rattle.segment_postings.proofs.segment_postings.SegmentPostingsDocSet.seek.Goals as goal

sought : (c : After-seek-self) → entries_from c.seek-self.result c.seek-self.new.self.skips.position_offset (docs_left c.seek-self.new.self) (counts_left c.seek-self.new.self) (listed c.args.self.now.positions) ≡ from c.args.target (entries_left c.args.self.now)
sought c =
    index_on (below c.args.target (docs_left c.args.self.now.blocks)) c.args.self.now.blocks.skips.position_offset c.seek-self.new.self.skips.position_offset c.seek-self.result (docs_left c.args.self.now.blocks) (counts_left c.args.self.now.blocks) (docs_left c.seek-self.new.self) (counts_left c.seek-self.new.self) c.args.self.now.positions c.seek-self.ensures.docs c.seek-self.ensures.counts c.seek-self.ensures.index (λ some. c.seek-self.ensures.offset (c.args.self.now.placed some))
    ∙ sym (from_index c.args.target c.args.self.now.cur c.args.self.now.blocks.skips.position_offset (docs_left c.args.self.now.blocks) (counts_left c.args.self.now.blocks) (listed c.args.self.now.positions) c.args.self.now.blocks.ascends c.requires.ahead)

pub invariant_of-self : goal.invariant_of-self
invariant_of-self c =
    let is = sought (goal.at.invariant_of-self c).After-seek-self in
    let kept = c.seek-self.ensures.kept.2 in
    let index = c.seek-self.ensures.index in
    record {
      inside = omega (arith, index);
      placed = λ some. kept ∙ c.args.self.now.placed some;
      told = λ some. ∥∥₁_map (c.args.self.now.told some) (still_told (below c.args.target (docs_left c.args.self.now.blocks) / 128) _ c.args.self.now.blocks.skips c.seek-self.new.self.skips (counts_left c.args.self.now.blocks) (counts_left c.seek-self.new.self) c.seek-self.ensures.entries c.seek-self.ensures.counts (c.seek-self.ensures.room (c.args.self.now.placed some)));
      of_one_term = single_from c.args.target (entries_left c.args.self.now) _ is c.args.self.now.of_one_term;
    }

pub returns-clause-rest : goal.returns-clause-rest
returns-clause-rest c = sought (goal.at.returns-clause-rest c).After-seek-self

pub returns-clause-moved : goal.returns-clause-moved
returns-clause-moved c =
    record { index_is = c.seek-self.ensures.index; docs = c.seek-self.ensures.docs; counts = c.seek-self.ensures.counts; entries = c.seek-self.ensures.entries; decoded = c.seek-self.ensures.decoded; doc_freq = c.seek-self.ensures.kept.0; positions = refl }
