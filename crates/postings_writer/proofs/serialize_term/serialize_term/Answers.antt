use Rattle.std.proofs.Common.{[], map}
use Rattle.std.proofs.lemmas.Result.{err_from_is_err_and}
use Rattle.definitions.specs.Postings.{Posting}
use Rattle.layouts.specs.Positions.{position_numbers}
use Rattle.postings_writer.specs.TermWriting.{recorded_count}
use Rattle.postings_writer.specs.Serializing.{postings_from}
use Rattle.postings_writer.proofs.WrittenTerms.{close_passes, term_written, write_passes}
use Rattle.postings_writer.proofs.serialize_term.serialize_term.Goals as goal

pub returns-in_err-close_term-clause-err : goal.returns-in_err-close_term-clause-err
returns-in_err-close_term-clause-err c =
    let ps = postings_from c.args.recorder.now 0 in
    let w = c.new_term.new.self in
    let docs = map (λ (p : Posting). p.doc) ps in
    let counts = map (λ (p : Posting). recorded_count w.writing.option p.count) ps in
    let numbers = position_numbers (map (λ (p : Posting). p.positions) ps) in
    let p = err_from_is_err_and c.from_residual-in_err-close_term.result c.from_residual-in_err-close_term.ensures.1 in
    let begun = c.in_ok-new_term.ensures in
    rw (p.1, p.2) (close_passes c.in_err-close_term.field-0.0 c.args.serializer.now w c.write_postings.new.serializer _ ps begun.option begun.kept.terms begun.kept.same.norms begun.kept.same.num_tokens begun.total c.in_ok-write_postings.ensures.same c.in_ok-write_postings.ensures.total (c.in_err-close_term.ensures.err docs counts numbers (c.in_ok-write_postings.ensures.ok [] [] [] begun.ready)))

pub returns-in_err-write_postings-clause-err : goal.returns-in_err-write_postings-clause-err
returns-in_err-write_postings-clause-err c =
    let begun = c.in_ok-new_term.ensures in
    let p = err_from_is_err_and c.from_residual-in_err-write_postings.result c.from_residual-in_err-write_postings.ensures.1 in
    rw (p.1, p.2) (write_passes c.in_err-write_postings.field-0.0 c.args.serializer.now c.new_term.new.self _ (postings_from c.args.recorder.now 0) begun.option (c.in_err-write_postings.ensures.err begun.ready))

pub returns-clause-ok : goal.returns-clause-ok
returns-clause-ok c =
    let ps = postings_from c.args.recorder.now 0 in
    let w = c.new_term.new.self in
    let docs = map (λ (p : Posting). p.doc) ps in
    let counts = map (λ (p : Posting). recorded_count w.writing.option p.count) ps in
    let numbers = position_numbers (map (λ (p : Posting). p.positions) ps) in
    let begun = c.in_ok-new_term.ensures in
    let written = c.in_ok-write_postings.ensures in
    term_written c.args.serializer.now w c.write_postings.new.serializer c.close_term.new.self c.args.key.now _ ps begun.key begun.option begun.kept begun.total written.same written.total (c.in_ok-close_term.ensures.ok docs counts numbers (written.ok [] [] [] begun.ready)) c.in_ok-close_term.ensures.tokens c.in_ok-close_term.ensures.same
