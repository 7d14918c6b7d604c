use Rattle.std.proofs.Common.{ap, cond, map, replicate, ◌∙◌}
use Rattle.std.proofs.Math.Logic.{∥∥₁_elim, ∥∥₁_map}
use Rattle.std.specs.Coded.{Coded-set, coded_ℕ}
use Rattle.definitions.specs.Postings.{Posting}
use Rattle.options.specs.RecordOption.{record_option_of}
use Rattle.segment_reader.proofs.OpenedPostings.{counts_as, entries_told, one_block, told_postings}
use Rattle.segment_reader.proofs.opened_term.open_term_blocks.Goals as goal

pub new-requires-clause-known : goal.new-requires-clause-known
new-requires-clause-known c =
    ∥∥₁_map c.requires (λ known. (map (λ (p : Posting). p.doc) known.0, map (λ (p : Posting). p.count) known.0, told_postings (record_option_of c.args.option) c.recorded_of-recorded.result.counts c.recorded_of-recorded.result.positions c.args.doc_freq c.args.postings.now known.1 known.0 c.recorded_of-recorded.ensures.counts c.recorded_of-recorded.ensures.positions known.2))

pub returns-clause-docs : goal.returns-clause-docs
returns-clause-docs c ps positions known =
    c.new.ensures.docs (map (λ (p : Posting). p.doc) ps) (map (λ (p : Posting). p.count) ps) (told_postings (record_option_of c.args.option) c.recorded_of-recorded.result.counts c.recorded_of-recorded.result.positions c.args.doc_freq c.args.postings.now positions ps c.recorded_of-recorded.ensures.counts c.recorded_of-recorded.ensures.positions known)

pub returns-clause-counts : goal.returns-clause-counts
returns-clause-counts c ps positions known =
    c.new.ensures.counts (map (λ (p : Posting). p.doc) ps) (map (λ (p : Posting). p.count) ps) (told_postings (record_option_of c.args.option) c.recorded_of-recorded.result.counts c.recorded_of-recorded.result.positions c.args.doc_freq c.args.postings.now positions ps c.recorded_of-recorded.ensures.counts c.recorded_of-recorded.ensures.positions known)
    ∙ ap (λ b. cond b (map (λ (p : Posting). p.count) ps) (replicate c.args.doc_freq 1)) c.reads_counts-reads_counts.ensures
    ∙ counts_as (record_option_of c.args.option) (record_option_of c.args.asked) c.args.doc_freq c.args.postings.now positions ps known

pub returns-clause-decoded : goal.returns-clause-decoded
returns-clause-decoded c =
    ∥∥₁_elim c.requires (Coded-set coded_ℕ _ _) (λ known. c.new.ensures.decoded ∙ one_block (record_option_of c.args.option) c.args.doc_freq c.args.postings.now known.1 known.0 known.2)

pub returns-clause-skips : goal.returns-clause-skips
returns-clause-skips c ps positions known = c.new.ensures.entries (map (λ (p : Posting). p.doc) ps) (map (λ (p : Posting). p.count) ps) (told_postings (record_option_of c.args.option) c.recorded_of-recorded.result.counts c.recorded_of-recorded.result.positions c.args.doc_freq c.args.postings.now positions ps c.recorded_of-recorded.ensures.counts c.recorded_of-recorded.ensures.positions known) ∙ entries_told (record_option_of c.args.option) known.ids ps
