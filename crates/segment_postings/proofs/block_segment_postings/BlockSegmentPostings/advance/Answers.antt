use Rattle.std.proofs.Common.{ap, arith, length, length-drop, subst, sym}
use Rattle.segment_postings.proofs.HeldBlocks.{none_summed}
use Rattle.segment_postings.proofs.Passing.{Moved, moved_on}
use Rattle.segment_postings.specs.Reading.{Ascends, docs_at}
use Rattle.segment_postings.proofs.block_segment_postings.BlockSegmentPostings.advance.Goals.{After-advance}
use Rattle.segment_postings.proofs.block_segment_postings.BlockSegmentPostings.advance.Goals as goal
use Rattle.segment_postings.specs.TermEntryLaws.{Ascends-behind}

moved : (c : After-advance) → Moved c.args.self.now.reads_counts c.args.self.now.reads_positions c.args.self.now.before c.args.self.now.skips c.last_doc_in_block-self.result c.advance.new.self c.args.self.now.bytes.now
moved c = moved_on c.args.self.now.reads_counts c.args.self.now.reads_positions c.args.self.now.before c.last_doc_in_block-self.result c.args.self.now.skips c.advance.new.self c.args.self.now.bytes.now c.args.self.now.stands c.advance.ensures.block c.advance.ensures.rest c.last_doc_in_block-self.ensures

pub decode_block-self-requires : goal.decode_block-self-requires
decode_block-self-requires c = (c.args.self.now.reads_positions, (moved (goal.at.decode_block-self-requires c).After-advance).stands)

pub invariant_of-self : goal.invariant_of-self
invariant_of-self c =
    let on = moved (goal.at.invariant_of-self c).After-advance in
    let held = c.decode_block-self.ensures in
    let few = c.args.self.now.few in
    let long = ap length on.docs in
    let len = held.len_is in
    let one = c.count_block.ensures in
    record {
      stands = on.stands;
      held = held;
      ascends = subst (λ xs. Ascends 0 xs) (sym on.docs) (Ascends-behind 128 0 (docs_at c.args.self.now.before c.args.self.now.skips c.args.self.now.bytes.now) c.args.self.now.ascends);
      few = omega (arith, few, long, len, one, length-drop 128 (docs_at c.args.self.now.before c.args.self.now.skips c.args.self.now.bytes.now));
      adds_up = none_summed c.decode_block-self.new.counts;
      found = tt;
    }

pub returns-clause-docs : goal.returns-clause-docs
returns-clause-docs c = (moved (goal.at.returns-clause-docs c).After-advance).docs

pub returns-clause-counts : goal.returns-clause-counts
returns-clause-counts c = (moved (goal.at.returns-clause-counts c).After-advance).counts

pub returns-clause-offset : goal.returns-clause-offset
returns-clause-offset c = (moved (goal.at.returns-clause-offset c).After-advance).offset

pub returns-clause-room : goal.returns-clause-room
returns-clause-room c = (moved (goal.at.returns-clause-room c).After-advance).room

pub returns-clause-entries : goal.returns-clause-entries
returns-clause-entries c = (moved (goal.at.returns-clause-entries c).After-advance).entries
