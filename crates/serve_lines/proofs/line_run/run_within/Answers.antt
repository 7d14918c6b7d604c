use Rattle.std.proofs.KnownBytes.{Appends-nil}
use Rattle.definitions.proofs.Lists.{on_err}
use Rattle.serve_lines.proofs.RunFacts.{HasServed-more, HasServed-none, ServesAll-end, ServesAtMost-none, ServesFirst-more}
use Rattle.serve_lines.proofs.line_run.run_within.Goals as goal

pub loop-line-init : goal.loop-line-init
loop-line-init g c = HasServed-none g.S.Service.replies c.args.service.now _ _ (Appends-nil _)

pub loop-line-preserved : goal.loop-line-preserved
loop-line-preserved g c =
    HasServed-more g.S.Service.replies c.args.service.now c.loop-line.service c.serve_line.new.service _ _ _ _ _ _
    c.loop-line.invariant (rw c.if-branch.true at c.in_ok-serve_line.ensures.served)

pub returns-clause-served : goal.returns-clause-served
returns-clause-served g c =
    ServesAll-end g.S.Service.replies c.args.service.now c.loop-line.service c.serve_line.new.service _ _ _ _ _ _ _
    c.loop-line.invariant (rw c.if-branch.false at c.in_ok-serve_line.ensures.served) c.in_ok-flush.ensures.writer

pub returns-in_err-serve_line-clause-left : goal.returns-in_err-serve_line-clause-left
returns-in_err-serve_line-clause-left g c =
    on_err c.from_residual.result
    (ServesFirst-more g.S.Service.replies c.args.service.now c.loop-line.service c.serve_line.new.service _ _ _ _ _
    c.loop-line.invariant c.in_err-serve_line.ensures.left)

pub returns-in_err-flush-clause-left : goal.returns-in_err-flush-clause-left
returns-in_err-flush-clause-left g c =
    on_err c.from_residual-in_err-flush.result
    (ServesFirst-more g.S.Service.replies c.args.service.now c.loop-line.service c.serve_line.new.service _ _ _ _ _
    c.loop-line.invariant
    (ServesAtMost-none g.S.Service.replies c.loop-line.service c.serve_line.new.service _ _ _ _ _
    (rw c.if-branch.false at c.in_ok-serve_line.ensures.served) c.in_err-flush.ensures.writer))
