use Rattle.std.proofs.Common.{ap, length, subst, sym, ◌∙◌}
use Rattle.docsets.specs.Entries.{from}
use Rattle.segment_postings.specs.BoundedBlocks.{AreBounded}
use Rattle.segment_postings.specs.Cursors.{counts_left, cursor_blocks, docs_left, entries_left, skips_left}
use Rattle.scorer_cases.proofs.scored_terms.scorer.Goals as goal

pub new-requires-clause-covered : goal.new-requires-clause-covered
new-requires-clause-covered c =
    let ds = c.requires.written.0 in
    let counts = c.requires.written.1 in
    let h = c.requires.written.2 in
    let same = c.opened.ensures.entries ds counts h ∙ sym (c.opened-2.ensures.entries ds counts h) in
    sym (ap (from (length c.args.lengths)) same) ∙ (ap (λ n. from n (entries_left c.opened.result)) (sym c.num_docs.ensures) ∙ c.are_below.ensures c.if-not-are_below.false)

pub new-requires-clause-bounded : goal.new-requires-clause-bounded
new-requires-clause-bounded c =
    let blocks = cursor_blocks c.opened-2.result in
    subst (λ ids. AreBounded ids (skips_left blocks) (docs_left blocks) (counts_left blocks)) c.requires.written.3 (c.opened-2.ensures.bounded c.requires.written.0 c.requires.written.1 c.requires.written.2)
