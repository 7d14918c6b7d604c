use Rattle.std.proofs.Common.{List, arith, length, subst, true, sym, ◌/◌, ◌∙◌, ◌≡◌, ℕ}
use Rattle.std.proofs.Math.Logic.{∥∥₁_elim, ∥∥₁_map}
use Rattle.segment_postings.proofs.BoundedBlocks.{opened_bounded, positive_counts}
use Rattle.segment_postings.proofs.PlacedEntries.{all_positions, opened_entries, single_entries}
use Rattle.segment_postings.proofs.ReadBack.{posted_from}
use Rattle.segment_postings.specs.CountBounds.{TellCounts}
use Rattle.segment_postings.specs.Cursors.{counts_left, docs_left}
use Rattle.docsets.specs.Entries.{AreSingle}
use Rattle.docsets.proofs.EntryLaws.{AreSingle-prop}
use Rattle.segment_postings.specs.Reading.{HasPostings}
use Rattle.segment_postings.specs.TermEntries.{HasPositions, entries_from, term_entries}
use Rattle.segment_postings.proofs.segment_postings.SegmentPostings.with_positions.Goals.{After-new}
use Rattle.segment_postings.proofs.segment_postings.SegmentPostings.with_positions.Goals as goal

opened : (c : After-new) (docs counts : List ℕ) (lists : List (List ℕ)) → HasPostings c.args.recorded.counts c.args.recorded.positions c.args.doc_freq c.args.bytes.now docs counts → HasPositions counts lists c.args.positions → entries_from 0 c.new.result.skips.position_offset (docs_left c.new.result) (counts_left c.new.result) c.args.positions ≡ term_entries docs counts lists
opened c docs counts lists h p = opened_entries c.new.result.skips.position_offset (docs_left c.new.result) (counts_left c.new.result) c.args.positions docs counts lists (c.new.ensures.docs docs counts h) (c.new.ensures.counts docs counts h) c.new.ensures.offset p h.postings.posted.same

-- the entries tell the counts
told : (c : After-new) (docs counts : List ℕ) (lists : List (List ℕ)) → HasPostings c.args.recorded.counts c.args.recorded.positions c.args.doc_freq c.args.bytes.now docs counts → HasPositions counts lists c.args.positions → TellCounts (length c.args.positions) c.new.result.skips (counts_left c.new.result)
told c docs counts lists h p =
    let known : TellCounts (length c.args.positions) c.new.result.skips counts = record {
      option = h.option;
      ids = h.ids;
      blocks = length docs / 128;
      next = 0;
      docs = docs;
      entries = c.new.ensures.entries docs counts h;
      positions = h.positions_are ∙ c.requires.recorded.1;
      fit = λ i. (posted_from h.option docs counts h.postings.posted).counts_fit i;
      total = (let begins = c.new.ensures.offset in let all = all_positions counts c.args.positions lists p in omega (arith, begins, all));
    } in
    subst (λ cs. TellCounts (length c.args.positions) c.new.result.skips cs) (sym (c.new.ensures.counts docs counts h)) known

pub new-requires-clause-known : goal.new-requires-clause-known
new-requires-clause-known c = ∥∥₁_map c.requires.known (λ k. (k.0, k.1, k.3))

pub invariant_of-result : goal.invariant_of-result
invariant_of-result c =
    let here = c in
    record {
      inside = omega arith;
      placed = λ some. c.new.ensures.reads.1;
      told = λ some. ∥∥₁_map c.requires.known (λ k. told here k.0 k.1 k.2 k.3 k.4);
      of_one_term = ∥∥₁_elim c.requires.known (AreSingle-prop (entries_from 0 c.new.result.skips.position_offset (docs_left c.new.result) (counts_left c.new.result) c.args.positions)) (λ k. subst AreSingle (sym (opened here k.0 k.1 k.2 k.3 k.4)) (single_entries k.0 k.1 k.2 k.4.placed));
    }

pub returns-clause-entries : goal.returns-clause-entries
returns-clause-entries c = opened (goal.at.returns-clause-entries c).After-new

pub returns-clause-bounded : goal.returns-clause-bounded
returns-clause-bounded c = λ docs counts h. opened_bounded true h.option h.ids docs counts 0 _ _ _ h.postings.posted.same (positive_counts counts h.postings.posted.counts_fit) (c.new.ensures.entries docs counts h) (c.new.ensures.docs docs counts h) (c.new.ensures.counts docs counts h)
