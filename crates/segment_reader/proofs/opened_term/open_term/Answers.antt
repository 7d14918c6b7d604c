use Rattle.std.proofs.Common.{[], ap, cond, false, length, map, replicate, subst, sym, true, ◌&&◌, ◌≡◌, ◌∙◌}
use Rattle.std.proofs.Math.Logic.{∥∥₁_elim, ∥∥₁_map}
use Rattle.std.specs.Coded.{Coded-set, coded_ℕ}
use Rattle.definitions.specs.Postings.{Posting}
use Rattle.definitions.specs.Schema.{has_positions}
use Rattle.layouts.specs.Positions.{position_numbers}
use Rattle.options.specs.RecordOption.{record_option_of}
use Rattle.segment_postings.specs.TermEntries.{HasPositions, entries_of}
use Rattle.segment_reader.proofs.OpenedPostings.{all_positions, entries_as, entries_told, has_positions_in, none_asked, one_block, placed_as, reads_all, told_postings}
use Rattle.segment_reader.proofs.opened_term.open_term.Goals as goal

pub new-reader-requires : goal.new-reader-requires
new-reader-requires c =
    let option = record_option_of c.args.option in
    let asked = record_option_of c.args.asked in
    let both : (has_positions option && has_positions asked) ≡ true = sym c.reads_positions.ensures ∙ c.if-reads_positions.true in
    ∥∥₁_map c.requires (λ known. (position_numbers (map (λ (p : Posting). p.positions) known.0), (has_positions_in option c.args.doc_freq c.args.postings.now c.args.positions.now known.0 (reads_all option asked both).1 known.1).1))

pub with_positions-requires-clause-known : goal.with_positions-requires-clause-known
with_positions-requires-clause-known c =
    let option = record_option_of c.args.option in
    let asked = record_option_of c.args.asked in
    let both : (has_positions option && has_positions asked) ≡ true = sym c.reads_positions.ensures ∙ c.if-reads_positions.true in
    ∥∥₁_map c.requires (λ known.
    let held = has_positions_in option c.args.doc_freq c.args.postings.now c.args.positions.now known.0 (reads_all option asked both).1 known.1 in (
      map (λ (p : Posting). p.doc) known.0,
      map (λ (p : Posting). p.count) known.0,
      map (λ (p : Posting). p.positions) known.0,
      told_postings option c.recorded_of-recorded.result.counts c.recorded_of-recorded.result.positions c.args.doc_freq c.args.postings.now c.args.positions.now known.0 c.recorded_of-recorded.ensures.counts c.recorded_of-recorded.ensures.positions known.1,
      subst (λ ns. HasPositions (map (λ (p : Posting). p.count) known.0) (map (λ (p : Posting). p.positions) known.0) ns) (sym (c.new-reader.ensures (position_numbers (map (λ (p : Posting). p.positions) known.0)) held.1)) held.0,
    ))

pub with_positions-requires-clause-recorded : goal.with_positions-requires-clause-recorded
with_positions-requires-clause-recorded c =
    let option = record_option_of c.args.option in
    let asked = record_option_of c.args.asked in
    let both : (has_positions option && has_positions asked) ≡ true = sym c.reads_positions.ensures ∙ c.if-reads_positions.true in
    let all = reads_all option asked both in
    (c.recorded_of-recorded.ensures.counts ∙ all.0, c.recorded_of-recorded.ensures.positions ∙ all.1)

pub returns-then-reads_positions-clause-entries : goal.returns-then-reads_positions-clause-entries
returns-then-reads_positions-clause-entries c ps known =
    let option = record_option_of c.args.option in
    let asked = record_option_of c.args.asked in
    let both : (has_positions option && has_positions asked) ≡ true = sym c.reads_positions.ensures ∙ c.if-reads_positions.true in
    let held = has_positions_in option c.args.doc_freq c.args.postings.now c.args.positions.now ps (reads_all option asked both).1 known in
    c.with_positions.ensures.entries (map (λ (p : Posting). p.doc) ps) (map (λ (p : Posting). p.count) ps) (map (λ (p : Posting). p.positions) ps)
    (told_postings option c.recorded_of-recorded.result.counts c.recorded_of-recorded.result.positions c.args.doc_freq c.args.postings.now c.args.positions.now ps c.recorded_of-recorded.ensures.counts c.recorded_of-recorded.ensures.positions known)
    (subst (λ ns. HasPositions (map (λ (p : Posting). p.count) ps) (map (λ (p : Posting). p.positions) ps) ns) (sym (c.new-reader.ensures (position_numbers (map (λ (p : Posting). p.positions) ps)) held.1)) held.0)
    ∙ placed_as option asked ps both

pub returns-then-reads_positions-clause-decoded : goal.returns-then-reads_positions-clause-decoded
returns-then-reads_positions-clause-decoded c =
    ∥∥₁_elim c.requires (Coded-set coded_ℕ _ _) (λ known. c.with_positions.ensures.decoded ∙ one_block (record_option_of c.args.option) c.args.doc_freq c.args.postings.now c.args.positions.now known.0 known.1)

pub new-requires-clause-known : goal.new-requires-clause-known
new-requires-clause-known c =
    ∥∥₁_map c.requires (λ known. (map (λ (p : Posting). p.doc) known.0, map (λ (p : Posting). p.count) known.0, told_postings (record_option_of c.args.option) c.recorded_of-recorded.result.counts c.recorded_of-recorded.result.positions c.args.doc_freq c.args.postings.now c.args.positions.now known.0 c.recorded_of-recorded.ensures.counts c.recorded_of-recorded.ensures.positions known.1))

pub returns-clause-entries : goal.returns-clause-entries
returns-clause-entries c ps known =
    let option = record_option_of c.args.option in
    let asked = record_option_of c.args.asked in
    let none : (has_positions option && has_positions asked) ≡ false = sym c.reads_positions.ensures ∙ c.if-reads_positions.false in
    c.new.ensures.entries (map (λ (p : Posting). p.doc) ps) (map (λ (p : Posting). p.count) ps) (told_postings option c.recorded_of-recorded.result.counts c.recorded_of-recorded.result.positions c.args.doc_freq c.args.postings.now c.args.positions.now ps c.recorded_of-recorded.ensures.counts c.recorded_of-recorded.ensures.positions known)
    ∙ ap (λ b. entries_of (map (λ (p : Posting). p.doc) ps) (cond b (map (λ (p : Posting). p.count) ps) (replicate c.args.doc_freq 1)) []) c.reads_counts.ensures
    ∙ entries_as option asked c.args.doc_freq c.args.postings.now c.args.positions.now ps none known

pub returns-clause-decoded : goal.returns-clause-decoded
returns-clause-decoded c =
    ∥∥₁_elim c.requires (Coded-set coded_ℕ _ _) (λ known. c.new.ensures.decoded ∙ one_block (record_option_of c.args.option) c.args.doc_freq c.args.postings.now c.args.positions.now known.0 known.1)

-- ---- skip entries and positions

pub returns-then-reads_positions-clause-skips : goal.returns-then-reads_positions-clause-skips
returns-then-reads_positions-clause-skips c ps known = c.with_positions.ensures.skips (map (λ (p : Posting). p.doc) ps) (map (λ (p : Posting). p.count) ps) (told_postings (record_option_of c.args.option) c.recorded_of-recorded.result.counts c.recorded_of-recorded.result.positions c.args.doc_freq c.args.postings.now c.args.positions.now ps c.recorded_of-recorded.ensures.counts c.recorded_of-recorded.ensures.positions known) ∙ entries_told (record_option_of c.args.option) known.ids ps

pub returns-clause-skips : goal.returns-clause-skips
returns-clause-skips c ps known = c.new.ensures.skips (map (λ (p : Posting). p.doc) ps) (map (λ (p : Posting). p.count) ps) (told_postings (record_option_of c.args.option) c.recorded_of-recorded.result.counts c.recorded_of-recorded.result.positions c.args.doc_freq c.args.postings.now c.args.positions.now ps c.recorded_of-recorded.ensures.counts c.recorded_of-recorded.ensures.positions known) ∙ entries_told (record_option_of c.args.option) known.ids ps

pub returns-then-reads_positions-clause-positions : goal.returns-then-reads_positions-clause-positions
returns-then-reads_positions-clause-positions c ps known =
    let option = record_option_of c.args.option in
    let asked = record_option_of c.args.asked in
    let both : (has_positions option && has_positions asked) ≡ true = sym c.reads_positions.ensures ∙ c.if-reads_positions.true in
    let all = reads_all option asked both in
    let held = has_positions_in option c.args.doc_freq c.args.postings.now c.args.positions.now ps all.1 known in
    c.with_positions.ensures.positions ∙ ap length (c.new-reader.ensures (position_numbers (map (λ (p : Posting). p.positions) ps)) held.1) ∙ all_positions asked ps all.3

pub returns-clause-positions : goal.returns-clause-positions
returns-clause-positions c ps known =
    let option = record_option_of c.args.option in
    let asked = record_option_of c.args.asked in
    let none : (has_positions option && has_positions asked) ≡ false = sym c.reads_positions.ensures ∙ c.if-reads_positions.false in
    c.new.ensures.positions ∙ none_asked option asked c.args.doc_freq c.args.postings.now c.args.positions.now ps none known

-- ---- bounds

pub returns-then-reads_positions-clause-bounded : goal.returns-then-reads_positions-clause-bounded
returns-then-reads_positions-clause-bounded c ps known = c.with_positions.ensures.bounded (map (λ (p : Posting). p.doc) ps) (map (λ (p : Posting). p.count) ps) (told_postings (record_option_of c.args.option) c.recorded_of-recorded.result.counts c.recorded_of-recorded.result.positions c.args.doc_freq c.args.postings.now c.args.positions.now ps c.recorded_of-recorded.ensures.counts c.recorded_of-recorded.ensures.positions known)

pub returns-clause-bounded : goal.returns-clause-bounded
returns-clause-bounded c ps known = c.new.ensures.bounded (map (λ (p : Posting). p.doc) ps) (map (λ (p : Posting). p.count) ps) (told_postings (record_option_of c.args.option) c.recorded_of-recorded.result.counts c.recorded_of-recorded.result.positions c.args.doc_freq c.args.postings.now c.args.positions.now ps c.recorded_of-recorded.ensures.counts c.recorded_of-recorded.ensures.positions known)
