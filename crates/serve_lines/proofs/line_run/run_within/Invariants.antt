use Rattle.serve_lines.proofs.RunFacts.{HasServed}
use Rattle.serve_lines.proofs.line_run.run_within.Given as goal

abbrev pub invariant-loop-line : goal.invariant-loop-line
invariant-loop-line g l =
    HasServed g.S.Service.replies l.initial.service l.service
    (g.R.Read.remaining l.initial.reader) (g.R.Read.remaining l.reader)
    (g.W.Write.contents l.initial.writer) (g.W.Write.contents l.writer)

abbrev pub decreases-loop-line : goal.decreases-loop-line
decreases-loop-line g l = l.turns
