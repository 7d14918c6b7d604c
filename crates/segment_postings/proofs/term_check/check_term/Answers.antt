use Rattle.std.proofs.Common.{ap, arith, length, refl, rules, false, true, ◌<◌, ◌≡◌, ◌≢◌}
use Rattle.std.proofs.lemmas.Grind.{merely}
use Rattle.std.proofs.lemmas.Result.{err_from_is_err_and}
use Rattle.definitions.proofs.Lists.{no_numbers as empty_list}
use Rattle.segment_postings.proofs.WholeTerms.{has_nothing, has_numbers, has_term, known_postings, stands_alone, stands_placed}
use Rattle.codes.specs.UnpackedBlocks.{listed}
use Rattle.definitions.specs.Schema.{has_positions}
use Rattle.options.specs.RecordOption.{record_option_of}
use Rattle.segment_postings.proofs.term_check.check_term.Goals as goal

pub returns-then-doc_freq-eq0-clause-err : goal.returns-then-doc_freq-eq0-clause-err
returns-then-doc_freq-eq0-clause-err c =
    let none = c.if-doc_freq-eq0.true in
    (refl, λ ps many t. (let some = t.has_postings in absurd (omega (arith, none, many, some))))

pub returns-in_err-total-clause-err : goal.returns-in_err-total-clause-err
returns-in_err-total-clause-err c =
    let p = err_from_is_err_and c.from_residual.result c.from_residual.ensures.1 in
    let refused = c.in_err-total.ensures.err in
    rw (p.1, p.2) (refused.0, λ ps many t. refused.1 _ (has_term (record_option_of c.args.option) c.args.num_docs c.args.doc_freq (listed c.args.fieldnorm_reader.now) c.args.postings.now c.args.positions.now ps many t))

pub check_positions-requires : goal.check_positions-requires
check_positions-requires c =
    let recorded : has_positions (record_option_of c.args.option) ≡ true = search rules in
    let h = c.in_ok-total.ensures.ok in
    merely (h.docs, h.counts, known_postings (record_option_of c.args.option) (listed c.args.fieldnorm_reader.now) c.args.num_docs c.args.doc_freq c.args.postings.now c.in_ok-total.total recorded h, h.total_is)

pub returns-in_err-check_positions-clause-err : goal.returns-in_err-check_positions-clause-err
returns-in_err-check_positions-clause-err c =
    let p = err_from_is_err_and c.from_residual-in_err-check_positions.result c.from_residual-in_err-check_positions.ensures.1 in
    let refused = c.in_err-check_positions.ensures.err in
    let recorded : has_positions (record_option_of c.args.option) ≡ true = search rules in
    rw (p.1, p.2) (
      refused.0,
      λ ps many t.
          (let h = has_term (record_option_of c.args.option) c.args.num_docs c.args.doc_freq (listed c.args.fieldnorm_reader.now) c.args.postings.now c.args.positions.now ps many t in
          refused.1 h.docs h.counts (known_postings (record_option_of c.args.option) (listed c.args.fieldnorm_reader.now) c.args.num_docs c.args.doc_freq c.args.postings.now _ recorded h) (has_numbers (record_option_of c.args.option) c.args.num_docs (listed c.args.fieldnorm_reader.now) c.args.postings.now c.args.positions.now ps recorded t)),
    )

pub returns-then-has_positions-clause-ok : goal.returns-then-has_positions-clause-ok
returns-then-has_positions-clause-ok c =
    let recorded : has_positions (record_option_of c.args.option) ≡ true = search rules in
    let h = c.in_ok-total.ensures.ok in
    let some : 0 < c.args.doc_freq = (let other = c.if-doc_freq-eq0.false in omega (arith, other)) in
    let known = known_postings (record_option_of c.args.option) (listed c.args.fieldnorm_reader.now) c.args.num_docs c.args.doc_freq c.args.postings.now c.in_ok-total.total recorded h in
    let s = stands_placed (record_option_of c.args.option) c.args.num_docs c.args.doc_freq (listed c.args.fieldnorm_reader.now) c.args.postings.now c.args.positions.now c.in_ok-total.total some recorded h (c.in_ok-check_positions.ensures.ok h.docs h.counts known) in
    (s.postings, s.many, s.is, s.total_is)

pub returns-then-not-is_empty-clause-err : goal.returns-then-not-is_empty-clause-err
returns-then-not-is_empty-clause-err c =
    let none : has_positions (record_option_of c.args.option) ≡ false = search rules in
    let other : length c.args.positions.now ≢ 0 = search rules in
    (refl, λ ps many t. other (ap length (has_nothing (record_option_of c.args.option) c.args.num_docs (listed c.args.fieldnorm_reader.now) c.args.postings.now c.args.positions.now ps none t)))

pub returns-clause-ok : goal.returns-clause-ok
returns-clause-ok c =
    let none : has_positions (record_option_of c.args.option) ≡ false = search rules in
    let h = c.in_ok-total.ensures.ok in
    let some : 0 < c.args.doc_freq = (let other = c.if-doc_freq-eq0.false in omega (arith, other)) in
    let nothing : length c.args.positions.now ≡ 0 = search rules in
    let s = stands_alone (record_option_of c.args.option) c.args.num_docs c.args.doc_freq (listed c.args.fieldnorm_reader.now) c.args.postings.now c.args.positions.now c.in_ok-total.total some none h (empty_list c.args.positions.now nothing) in
    (s.postings, s.many, s.is, s.total_is)
