use Rattle.std.proofs.Common.{arith, length, sym, ◌/◌, ◌<◌, ◌≡◌, ◌^◌, ℕ}
use Rattle.std.proofs.lemmas.Result.{err_from_is_err_and}
use Rattle.segment_postings.proofs.TermChecks.{AreParts, skips_as, term_blocks, term_is, term_skips, term_untaken}
use Rattle.segment_postings.specs.Terms.{HasTerm}
use Rattle.codes.specs.UnpackedBlocks.{listed}
use Rattle.definitions.specs.Schema.{has_freq, has_positions}
use Rattle.layouts.specs.SkipEntries.{AreSkips}
use Rattle.layouts.specs.TermPostings.{skip_entries}
use Rattle.options.specs.RecordOption.{record_option_of}
use Rattle.segment_postings.proofs.postings_check.checked_postings.Goals.{After-open}
use Rattle.segment_postings.proofs.postings_check.checked_postings.Goals as goal

short : (c : After-open) → length c.args.bytes.now < 2 ^ 64
short c = omega arith

parts : (c : After-open) → AreParts c.args.doc_freq c.args.bytes.now c.in_ok-entries.entries.now c.in_ok-entries.packed.now
parts c = record { few = c.in_ok-entries.ensures.few; many = c.in_ok-entries.ensures.many }

-- the entries of a term that has these bytes
skips : (c : After-open) (total : ℕ) (h : HasTerm (record_option_of c.args.option) (listed c.args.fieldnorm_reader.now) c.args.num_docs c.args.doc_freq c.args.bytes.now total) → AreSkips c.recorded_of.result.counts c.recorded_of.result.positions (c.args.doc_freq / 128) c.in_ok-entries.entries.now (skip_entries (record_option_of c.args.option) (listed c.args.fieldnorm_reader.now) (length h.docs / 128) 0 h.docs h.counts)
skips c total h = skips_as (has_freq (record_option_of c.args.option)) c.recorded_of.result.counts (has_positions (record_option_of c.args.option)) c.recorded_of.result.positions (c.args.doc_freq / 128) c.in_ok-entries.entries.now _ (sym c.recorded_of.ensures.counts) (sym c.recorded_of.ensures.positions) (term_skips (record_option_of c.args.option) (listed c.args.fieldnorm_reader.now) c.args.num_docs c.args.doc_freq c.args.bytes.now c.in_ok-entries.entries.now c.in_ok-entries.packed.now total (short c) (λ i. omega (arith, c.type_inv.bytes i)) (parts c) h)

pub returns-in_err-entries-clause-err : goal.returns-in_err-entries-clause-err
returns-in_err-entries-clause-err c =
    let p = err_from_is_err_and c.from_residual.result c.from_residual.ensures.1 in
    let refused = c.in_err-entries.ensures.err in
    let few : length c.args.bytes.now < 2 ^ 64 = omega arith in
    rw (p.1, p.2) (refused.0, λ total h. term_untaken (record_option_of c.args.option) (listed c.args.fieldnorm_reader.now) c.args.num_docs c.args.doc_freq c.args.bytes.now total few refused.1 refused.2 h)

pub returns-in_err-skips-clause-err : goal.returns-in_err-skips-clause-err
returns-in_err-skips-clause-err c =
    let p = err_from_is_err_and c.from_residual-in_err-skips.result c.from_residual-in_err-skips.ensures.1 in
    let here = (goal.at.returns-in_err-skips-clause-err c).After-open in
    let refused = c.in_err-skips.ensures.err in
    rw (p.1, p.2) (refused.0, λ total h. refused.1 _ (skips here total h))

pub checked_blocks-requires-clause-entries : goal.checked_blocks-requires-clause-entries
checked_blocks-requires-clause-entries c = c.in_ok-skips.ensures.ok.0.many

pub returns-in_err-total-clause-err : goal.returns-in_err-total-clause-err
returns-in_err-total-clause-err c =
    let p = err_from_is_err_and c.from_residual-in_err-total.result c.from_residual-in_err-total.ensures.1 in
    let here = (goal.at.returns-in_err-total-clause-err c).After-open in
    let refused = c.in_err-total.ensures.err in
    let count : length c.in_ok-skips.skips.left ≡ c.args.doc_freq / 128 = c.in_ok-skips.ensures.ok.0.many in
    rw (p.1, p.2) (refused.0, λ total h. refused.1 total (term_blocks (record_option_of c.args.option) (listed c.args.fieldnorm_reader.now) c.args.num_docs c.args.doc_freq c.args.bytes.now c.in_ok-entries.entries.now c.in_ok-entries.packed.now c.in_ok-skips.skips.left total (short here) (λ i. omega (arith, c.type_inv.bytes i)) (parts here) count h (c.in_ok-skips.ensures.one _ (skips here total h))))

pub returns-clause-ok : goal.returns-clause-ok
returns-clause-ok c =
    let here = (goal.at.returns-clause-ok c).After-open in
    let told : AreSkips (has_freq (record_option_of c.args.option)) (has_positions (record_option_of c.args.option)) (c.args.doc_freq / 128) c.in_ok-entries.entries.now c.in_ok-skips.skips.left = skips_as c.recorded_of.result.counts (has_freq (record_option_of c.args.option)) c.recorded_of.result.positions (has_positions (record_option_of c.args.option)) (c.args.doc_freq / 128) c.in_ok-entries.entries.now c.in_ok-skips.skips.left c.recorded_of.ensures.counts c.recorded_of.ensures.positions c.in_ok-skips.ensures.ok.0 in
    term_is (record_option_of c.args.option) (listed c.args.fieldnorm_reader.now) c.args.num_docs c.args.doc_freq c.args.bytes.now c.in_ok-entries.entries.now c.in_ok-entries.packed.now c.in_ok-skips.skips.left c.in_ok-total.total c.requires.few (λ i. omega (arith, c.type_inv.bytes i)) (parts here) told c.in_ok-total.ensures.ok
