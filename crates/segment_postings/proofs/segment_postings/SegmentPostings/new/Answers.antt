use Rattle.std.proofs.Common.{[], None, ap, arith, ap₂, drop, if◌then◌else◌, replicate, sum, take, ◌+◌, ◌∙◌}
use Rattle.segment_postings.proofs.BoundedBlocks.{opened_bounded, positive_counts}
use Rattle.segment_postings.proofs.EntryMoves.{no_positions, numbers_same}
use Rattle.segment_postings.specs.Cursors.{counts_left, docs_left}
use Rattle.segment_postings.specs.TermEntries.{entries_of}
use Rattle.segment_postings.proofs.segment_postings.SegmentPostings.new.Goals as goal

pub returns-clause-entries : goal.returns-clause-entries
returns-clause-entries c = λ docs counts h.
    ap₂ (λ xs ys. entries_of xs ys (drop (c.new.result.skips.position_offset + sum (take 0 (counts_left c.new.result))) [])) (c.new.ensures.docs docs counts h) (c.new.ensures.counts docs counts h)
    ∙ ap (λ xs. entries_of docs (if c.args.reads_counts then counts else replicate c.args.doc_freq 1) xs) (numbers_same None (c.new.result.skips.position_offset + sum (take 0 (counts_left c.new.result))) 0 (λ some. absurd cc))

pub invariant_of-result : goal.invariant_of-result
invariant_of-result c =
    let none = no_positions (drop 0 (docs_left c.new.result)) (drop 0 (counts_left c.new.result)) (drop (c.new.result.skips.position_offset + sum (take 0 (counts_left c.new.result))) []) (numbers_same None (c.new.result.skips.position_offset + sum (take 0 (counts_left c.new.result))) 0 (λ some. absurd cc)) in
    record { inside = omega arith; placed = λ some. absurd cc; told = λ some. absurd cc; of_one_term = none.0 }

pub returns-clause-bounded : goal.returns-clause-bounded
returns-clause-bounded c = λ docs counts h. opened_bounded c.args.reads_counts h.option h.ids docs counts c.args.doc_freq _ _ _ h.postings.posted.same (positive_counts counts h.postings.posted.counts_fit) (c.new.ensures.entries docs counts h) (c.new.ensures.docs docs counts h) (c.new.ensures.counts docs counts h)
