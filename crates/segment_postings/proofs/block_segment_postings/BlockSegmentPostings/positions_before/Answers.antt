use Rattle.std.proofs.Common.{ap, arith, drop, length, length-take, sum, sym, take, ◌+◌, ◌-◌, ◌∙◌, ◌≡◌, ◌≤◌}
use Rattle.std.proofs.lemmas.List.{take-take}
use Rattle.segment_postings.proofs.Passing.{sum_of_more}
use Rattle.segment_postings.specs.Cursors.{counts_left, docs_left}
use Rattle.segment_postings.specs.Reading.{IsSummed}
use Rattle.segment_postings.specs.declared.block_segment_postings.BlockSegmentPostings.{BlockSegmentPostings}
use Rattle.segment_postings.proofs.block_segment_postings.BlockSegmentPostings.positions_before.Goals.{After-sum_of, else-index-self, then-index-self}
use Rattle.segment_postings.proofs.block_segment_postings.BlockSegmentPostings.positions_before.Goals as goal

-- what is known where it is added up from is not behind the index
record FromThere (c : After-sum_of) : Type 0 where
  ahead : c.if-index-self.self.summed_len ≤ c.args.index
  offset : c.if-index-self.self.skips.position_offset ≡ c.args.self.now.skips.position_offset
  docs : docs_left c.if-index-self.self ≡ docs_left c.args.self.now
  counts : counts_left c.if-index-self.self ≡ counts_left c.args.self.now

from_there : (c : After-sum_of) → FromThere c
from_there c = elim c.if-index-self.branch [
  | then-index-self w ↦ record {
    ahead = (let is = ap (λ (b : BlockSegmentPostings). b.summed_len) w.self-is in omega (arith, is));
    offset = ap (λ (b : BlockSegmentPostings). b.skips.position_offset) w.self-is;
    docs = ap (λ (b : BlockSegmentPostings). docs_left b) w.self-is;
    counts = ap (λ (b : BlockSegmentPostings). counts_left b) w.self-is;
  }
  | else-index-self w ↦ record {
    ahead = (let is = ap (λ (b : BlockSegmentPostings). b.summed_len) w.self-is in omega (arith, is, w.if-index-self.false));
    offset = ap (λ (b : BlockSegmentPostings). b.skips.position_offset) w.self-is;
    docs = ap (λ (b : BlockSegmentPostings). docs_left b) w.self-is;
    counts = ap (λ (b : BlockSegmentPostings). counts_left b) w.self-is;
  }
]

-- all counts before the index are added up
added : (c : After-sum_of) → IsSummed c.if-index-self.self.counts c.args.index (c.if-index-self.self.summed + c.sum_of.result)
added c =
    let there = from_there c in
    let self = c.if-index-self.self in
    let first = self.summed_len in
    let more = c.args.index - first in
    let ahead = there.ahead in
    let before = self.adds_up.total_is in
    let few = self.adds_up.total_fits in
    let value = c.sum_of.ensures.value in
    let most = c.sum_of.ensures.few in
    let len = length-take more (drop first self.counts) in
    let whole = sum_of_more first more self.counts in
    let index : first + more ≡ c.args.index = omega (arith, ahead) in
    let all = ap (λ k. sum (take k self.counts)) index in
    let block = c.requires in
    record {
      within = omega (arith, block);
      total_is = omega (arith, before, value, whole, all);
      total_fits = omega (arith, few, most, len, ahead);
    }

pub invariant_of-self-2 : goal.invariant_of-self-2
invariant_of-self-2 c =
    let self = c.if-index-self.self in
    record { stands = self.stands; held = self.held; ascends = self.ascends; few = self.few; adds_up = added (goal.at.invariant_of-self-2 c).After-sum_of; found = self.found }

pub returns-clause-value : goal.returns-clause-value
returns-clause-value c =
    let at = (goal.at.returns-clause-value c).After-sum_of in
    let there = from_there at in
    let self = c.if-index-self.self in
    let offset = c.position_offset.ensures.offset in
    let same_offset = there.offset in
    let value = (added at).total_is in
    let len = self.held.len_is in
    let index = c.requires in
    let docs = ap length there.docs in
    let same = ap sum (sym (take-take c.args.index self.len self.counts (omega (arith, len, index, docs))) ∙ (ap (take c.args.index) self.held.counts_are ∙ (take-take c.args.index 128 (counts_left self) (omega (arith, index)) ∙ ap (take c.args.index) there.counts))) in
    omega (arith, offset, same_offset, value, same)
