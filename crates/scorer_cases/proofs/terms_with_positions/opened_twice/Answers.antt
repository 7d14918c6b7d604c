use Rattle.std.proofs.Common.{ap, arith, sum, sym, ◌∙◌}
use Rattle.definitions.specs.Schema.{with_freqs_and_positions}
use Rattle.segment_reader.specs.OpenedTerms.{HasTerm}
use Rattle.docsets.specs.ScoredEntries.{greatest_score}
use Rattle.docsets.specs.Members.{entries_of}
use Rattle.scorers.specs.Uniting.{counts_in}
use Rattle.scorer_cases.proofs.TermsWithPositions.{counted, unscored}
use Rattle.scorer_cases.proofs.terms_with_positions.opened_twice.Goals as goal

pub returns-clause-same : goal.returns-clause-same
returns-clause-same c =
    let ok = c.in_ok-total.ensures.ok in
    let has : HasTerm with_freqs_and_positions c.args.term.now.doc_freq c.as_slice-postings.result.now c.as_slice-positions.result.now ok.0 = record { num_docs = _; ids = _; is_term = ok.2; many = ok.1 } in
    c.opened-2.ensures ok.0 has ∙ sym (c.opened.ensures ok.0 has)

pub returns-clause-unscored : goal.returns-clause-unscored
returns-clause-unscored c =
    let ok = c.in_ok-total.ensures.ok in
    let has : HasTerm with_freqs_and_positions c.args.term.now.doc_freq c.as_slice-postings.result.now c.as_slice-positions.result.now ok.0 = record { num_docs = _; ids = _; is_term = ok.2; many = ok.1 } in
    ap greatest_score (c.opened.ensures ok.0 has) ∙ unscored ok.0

pub returns-clause-few : goal.returns-clause-few
returns-clause-few c d =
    let ok = c.in_ok-total.ensures.ok in
    let has : HasTerm with_freqs_and_positions c.args.term.now.doc_freq c.as_slice-postings.result.now c.as_slice-positions.result.now ok.0 = record { num_docs = _; ids = _; is_term = ok.2; many = ok.1 } in
    let same = ap (λ es. sum (counts_in (entries_of d es))) (c.opened.ensures ok.0 has) in
    let few = counted d ok.0 in
    let total = ok.3 in
    let most = c.if-total-gt-MOST_POSITIONS.false in
    omega (arith, same, few, total, most)
