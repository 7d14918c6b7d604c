use Rattle.std.proofs.lemmas.Result.{err_from_is_err_and}
use Rattle.definitions.specs.Analyzers.{kept}
use Rattle.postings_writer.proofs.TextRuns.{cut_next, cut_refused, cut_stands, cut_within}
use Rattle.postings_writer.proofs.postings_writer.PostingsWriter.index_text.Goals as goal

pub returns-in_err-end-clause-err : goal.returns-in_err-end-clause-err
returns-in_err-end-clause-err g c os real stands is =
    let p = err_from_is_err_and c.from_residual.result c.from_residual.ensures.1 in
    rw (p.1, p.2) (cut_refused c.in_err-end.field-0.0 os c.args.doc c.args.term_buffer.now.items c.args.gap c.args.start real (kept (g.T.TokenStream.rest c.args.stream.now)) is (c.in_err-end.ensures.err os stands))

pub returns-clause-ok : goal.returns-clause-ok
returns-clause-ok g c os real stands is = cut_stands c.args.schema.now c.index_tokens.new.self os c.args.doc c.args.term_buffer.now.items c.args.gap c.args.start real (kept (g.T.TokenStream.rest c.args.stream.now)) is c.in_ok-end.ensures.within (c.in_ok-end.ensures.ok os stands)

pub returns-clause-next : goal.returns-clause-next
returns-clause-next g c real is = cut_next c.args.gap c.args.start real c.in_ok-end.end c.start_after.result (kept (g.T.TokenStream.rest c.args.stream.now)) is c.in_ok-end.ensures.within c.in_ok-end.ensures.end c.start_after.ensures

pub returns-clause-within : goal.returns-clause-within
returns-clause-within g c real is = cut_within c.args.gap c.args.start real (kept (g.T.TokenStream.rest c.args.stream.now)) is c.in_ok-end.ensures.within
