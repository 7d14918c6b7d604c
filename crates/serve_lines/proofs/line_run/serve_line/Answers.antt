use Rattle.definitions.proofs.Lists.{on_err}
use Rattle.serve_lines.proofs.RunFacts.{ServesAtMost-kept, ServesAtMost-one}
use Rattle.serve_lines.proofs.line_run.serve_line.Goals as goal

pub returns-in_err-read_line-clause-left : goal.returns-in_err-read_line-clause-left
returns-in_err-read_line-clause-left g c =
    on_err c.from_residual.result
    (ServesAtMost-kept g.S.Service.replies c.args.service.now _ _ _ c.read_line.ensures.writer)

pub returns-in_err-answer_line-clause-left : goal.returns-in_err-answer_line-clause-left
returns-in_err-answer_line-clause-left g c =
    on_err c.from_residual-in_err-answer_line.result
    (ServesAtMost-one g.S.Service.replies c.args.service.now c.answer_line.new.service _ _ _ _ _ c.read_line.new.line
    (rw c.if-not-branch.false at c.in_ok-read_line.ensures.ok) c.in_ok-read_line.ensures.writer
    c.in_err-answer_line.ensures.part)
