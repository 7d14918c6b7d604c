use Rattle.std.proofs.Common.{IsSome, List, Option, ap, arith, length, min, ◌<◌, ◌∙◌, ◌≡◌, ◌^◌, ℕ}
use Rattle.std.proofs.Math.Logic.{∥∥₁_elim, ∥∥₁_map}
use Rattle.std.proofs.Props.{props}
use Rattle.std.specs.Coded.{Coded-set, coded_ℕ}
use Rattle.definitions.specs.NumberCodes.{take_bytes}
use Rattle.segment_postings.proofs.Opening.{Opened, Parts, entries, known_skips, opened, parts_known, some_taken}
use Rattle.segment_postings.specs.Reading.{HasPostings}
use Rattle.segment_postings.specs.ReadingLaws.{StandsIn-prop}
use Rattle.codes.specs.SkipBlocks.{Skips, begun}
use Rattle.segment_postings.proofs.block_segment_postings.BlockSegmentPostings.new.Goals.{After-new-skips, After-split_entries}
use Rattle.segment_postings.proofs.block_segment_postings.BlockSegmentPostings.new.Goals as goal

pub split_entries-requires : goal.split_entries-requires
split_entries-requires c = λ many.
    let short : length c.args.bytes.now < 2 ^ 64 = omega arith in
    ∥∥₁_elim c.requires.known (IsSome-prop (take_bytes c.args.bytes.now)) (λ k. some_taken c.args.recorded.counts c.args.recorded.positions c.args.doc_freq c.args.bytes.now k.0 k.1 k.2 short many)
  where
    IsSome-prop : (o : Option (List ℕ × List ℕ)) → IsProp (IsSome o)
    IsSome-prop o = hlevel props

parts : (c : After-split_entries) (docs counts : List ℕ) (h : HasPostings c.args.recorded.counts c.args.recorded.positions c.args.doc_freq c.args.bytes.now docs counts) → Parts c.args.recorded.counts c.args.recorded.positions c.args.doc_freq c.args.bytes.now docs counts c.split_entries.result.0.now c.split_entries.result.1.now h
parts c docs counts h = parts_known c.args.recorded.counts c.args.recorded.positions c.args.doc_freq c.args.bytes.now docs counts c.split_entries.result.0.now c.split_entries.result.1.now h (let short : length c.args.bytes.now < 2 ^ 64 = omega arith in short) (λ i. omega (arith, c.type_inv.bytes i)) c.split_entries.ensures.few c.split_entries.ensures.many

pub new-skips-requires : goal.new-skips-requires
new-skips-requires c = ∥∥₁_map c.requires.known (λ k. (entries k.2.option k.2.ids k.0 k.1, known_skips c.args.recorded.counts c.args.recorded.positions c.args.doc_freq c.args.bytes.now k.0 k.1 c.split_entries.result.0.now c.split_entries.result.1.now k.2 (parts (goal.at.new-skips-requires c).After-split_entries k.0 k.1 k.2)))

begins : (c : After-new-skips) (docs counts : List ℕ) (h : HasPostings c.args.recorded.counts c.args.recorded.positions c.args.doc_freq c.args.bytes.now docs counts) → Parts c.args.recorded.counts c.args.recorded.positions c.args.doc_freq c.args.bytes.now docs counts c.split_entries.result.0.now c.split_entries.result.1.now h → c.new-skips.result ≡ begun c.args.recorded.counts c.args.recorded.positions c.args.doc_freq (entries h.option h.ids docs counts)
begins c docs counts h of = c.new-skips.ensures (entries h.option h.ids docs counts) (known_skips c.args.recorded.counts c.args.recorded.positions c.args.doc_freq c.args.bytes.now docs counts c.split_entries.result.0.now c.split_entries.result.1.now h of)

stands : (c : After-new-skips) (docs counts : List ℕ) (h : HasPostings c.args.recorded.counts c.args.recorded.positions c.args.doc_freq c.args.bytes.now docs counts) → Parts c.args.recorded.counts c.args.recorded.positions c.args.doc_freq c.args.bytes.now docs counts c.split_entries.result.0.now c.split_entries.result.1.now h → Opened c.args.reads_counts c.args.reads_positions c.args.doc_freq docs counts c.split_entries.result.1.now c.new-skips.result
stands c docs counts h of = opened c.args.recorded.counts c.args.recorded.positions c.args.reads_counts c.args.reads_positions c.args.doc_freq c.args.bytes.now docs counts c.split_entries.result.0.now c.split_entries.result.1.now h of c.requires.counts c.requires.positions c.new-skips.result (begins c docs counts h of)

pub begin-requires : goal.begin-requires
begin-requires c = ∥∥₁_elim c.requires.known (StandsIn-prop c.args.reads_counts c.args.reads_positions 0 c.new-skips.result c.split_entries.result.1.now) (λ k. (stands (goal.at.begin-requires c).After-new-skips k.0 k.1 k.2 (parts (goal.at.begin-requires c).After-split_entries k.0 k.1 k.2)).stands)

pub returns-clause-docs : goal.returns-clause-docs
returns-clause-docs c = λ docs counts h. c.begin.ensures.docs ∙ (stands (goal.at.returns-clause-docs c).After-new-skips docs counts h (parts (goal.at.returns-clause-docs c).After-split_entries docs counts h)).docs_are

pub returns-clause-counts : goal.returns-clause-counts
returns-clause-counts c = λ docs counts h. c.begin.ensures.counts ∙ (stands (goal.at.returns-clause-counts c).After-new-skips docs counts h (parts (goal.at.returns-clause-counts c).After-split_entries docs counts h)).counts_are

pub returns-clause-decoded : goal.returns-clause-decoded
returns-clause-decoded c = ∥∥₁_elim c.requires.known (Coded-set coded_ℕ _ _) (λ k.
    let here = stands (goal.at.returns-clause-decoded c).After-new-skips k.0 k.1 k.2 (parts (goal.at.returns-clause-decoded c).After-split_entries k.0 k.1 k.2) in
    c.begin.ensures.decoded ∙ ap (λ n. min 1 n) (ap length here.docs_are ∙ k.2.many))

pub returns-clause-offset : goal.returns-clause-offset
returns-clause-offset c = ∥∥₁_elim c.requires.known (Coded-set coded_ℕ _ _) (λ k. c.begin.ensures.offset ∙ ap (λ (s : Skips). s.position_offset) (begins (goal.at.returns-clause-offset c).After-new-skips k.0 k.1 k.2 (parts (goal.at.returns-clause-offset c).After-split_entries k.0 k.1 k.2)))

pub returns-clause-entries : goal.returns-clause-entries
returns-clause-entries c = λ docs counts h. c.begin.ensures.entries ∙ ap (λ (s : Skips). s.left) (begins (goal.at.returns-clause-entries c).After-new-skips docs counts h (parts (goal.at.returns-clause-entries c).After-split_entries docs counts h))
