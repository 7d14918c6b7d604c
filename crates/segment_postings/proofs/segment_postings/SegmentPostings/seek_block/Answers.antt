use Rattle.std.proofs.Common.{List, ap, arith, subst, sum, sym, ◌∙◌, ◌≡◌, ℕ}
use Rattle.std.proofs.Math.Logic.{∥∥₁_map}
use Rattle.codes.specs.UnpackedBlocks.{listed}
use Rattle.docsets.specs.Entries.{AreSingle, Entry}
use Rattle.segment_postings.proofs.BoundedCounts.{still_told}
use Rattle.segment_postings.specs.Cursors.{counts_left, docs_left, entries_left}
use Rattle.segment_postings.specs.TermEntries.{entries_from}
use Rattle.segment_postings.proofs.segment_postings.SegmentPostings.seek_block.Goals.{After-seek_block}
use Rattle.segment_postings.proofs.segment_postings.SegmentPostings.seek_block.Goals as goal

same : (c : After-seek_block) → entries_from c.args.self.now.cur c.seek_block.new.self.skips.position_offset (docs_left c.seek_block.new.self) (counts_left c.seek_block.new.self) (listed c.args.self.now.positions) ≡ entries_left c.args.self.now
same c =
    let self = c.args.self.now in
    let blocks = c.seek_block.new.self in
    let numbers = listed self.positions in
    ap (λ (ds : List ℕ). entries_from self.cur blocks.skips.position_offset ds (counts_left blocks) numbers) c.seek_block.ensures.docs
    ∙ (ap (λ (cs : List ℕ). entries_from self.cur blocks.skips.position_offset (docs_left self.blocks) cs numbers) c.seek_block.ensures.counts
    ∙ ap (λ o. entries_from self.cur o (docs_left self.blocks) (counts_left self.blocks) numbers) c.seek_block.ensures.offset)

pub invariant_of-self : goal.invariant_of-self
invariant_of-self c =
    let self = c.args.self.now in
    let is = same (goal.at.invariant_of-self c).After-seek_block in
    let kept = c.seek_block.ensures.kept.2 in
    let offset = c.seek_block.ensures.offset in
    let total = ap sum c.seek_block.ensures.counts in
    record {
      inside = self.inside;
      placed = λ some. kept ∙ self.placed some;
      told = λ some. ∥∥₁_map (self.told some) (still_told 0 _ self.blocks.skips c.seek_block.new.self.skips (counts_left self.blocks) (counts_left c.seek_block.new.self) c.seek_block.ensures.entries c.seek_block.ensures.counts (omega (arith, offset, total)));
      of_one_term = subst (λ (es : List Entry). AreSingle es) (sym is) self.of_one_term;
    }

pub returns-clause-same : goal.returns-clause-same
returns-clause-same c = same (goal.at.returns-clause-same c).After-seek_block
