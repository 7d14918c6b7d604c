use Rattle.std.proofs.Common.{[], ap, subst, sym, slice_index, ◌++◌, ◌+◌, ◌<◌, ◌∙◌, ◌∷◌, ◌^◌}
use Rattle.std.proofs.lemmas.Result.{err_from_is_err_and}
use Rattle.docsets.proofs.EntryLaws.{highest_first}
use Rattle.docsets.specs.Entries.{first_count, first_positions, single}
use Rattle.layouts.specs.Positions.{differences}
use Rattle.merging.proofs.Writes.{small_deltas}
use Rattle.postings_writer.specs.FieldWriting.{IsOpen}
use Rattle.postings_writer.specs.TermWriting.{IsSumRefusal, recorded_count}
use Rattle.segment_postings.specs.Cursors.{entries_left}
use Rattle.segment_postings.specs.CursorsLaws.{single_left}
use Rattle.merging.proofs.living_postings.write_posting.Goals as goal

pub write_doc-requires-clause-positions : goal.write_doc-requires-clause-positions
write_doc-requires-clause-positions c i =
    let es = entries_left c.args.postings.now in
    let told = c.deref.ensures.value ∙ c.in_ok-position_deltas.ensures.ok in
    subst (λ ns. slice_index ns i < 2 ^ 31) (sym told) (small_deltas (single (first_positions es)) i (highest_first es (single_left c.args.postings.now)))

pub returns-in_err-write_doc-clause-err : goal.returns-in_err-write_doc-clause-err
returns-in_err-write_doc-clause-err c docs counts numbers is =
    let count = c.term_freq.ensures ∙ ap first_count c.in_ok-position_deltas.ensures.same in
    let p = err_from_is_err_and c.from_residual-in_err-write_doc.result c.from_residual-in_err-write_doc.ensures.1 in
    rw (p.1, p.2) (subst (λ n. IsSumRefusal c.in_err-write_doc.field-0.0 (counts ++ recorded_count c.args.serializer.now.writing.option n ∷ [])) count (c.in_err-write_doc.ensures.err docs counts numbers is))

pub returns-clause-written : goal.returns-clause-written
returns-clause-written c docs counts numbers is =
    let told = c.deref.ensures.value ∙ c.in_ok-position_deltas.ensures.ok in
    let count = c.term_freq.ensures ∙ ap first_count c.in_ok-position_deltas.ensures.same in
    subst (λ n. IsOpen c.write_doc.new.self (docs ++ c.args.new_doc ∷ []) (counts ++ recorded_count c.args.serializer.now.writing.option n ∷ []) (numbers ++ differences 0 (single (first_positions (entries_left c.args.postings.now))))) count
    (subst (λ ns. IsOpen c.write_doc.new.self (docs ++ c.args.new_doc ∷ []) (counts ++ recorded_count c.args.serializer.now.writing.option c.term_freq.result ∷ []) (numbers ++ ns)) told
    (c.in_ok-write_doc.ensures.written docs counts numbers is))

pub returns-clause-total : goal.returns-clause-total
returns-clause-total c =
    let count = c.term_freq.ensures ∙ ap first_count c.in_ok-position_deltas.ensures.same in
    c.in_ok-write_doc.ensures.total ∙ ap (λ n. c.args.serializer.now.total_term_freq + n) count
