use Rattle.std.proofs.Common.{◌≡◌, ◌++◌, ap, ◌∙◌, subst, append-nil}
use Rattle.serve_lines.specs.Reading.{Holds}
use Rattle.serve_lines.proofs.LineFacts.{TakesLine-rest, TakesLine-end}
use Rattle.serve_lines.proofs.line_reader.read_line.Goals as goal

pub returns-in-Rest-clause-ok : goal.returns-in-Rest-clause-ok
returns-in-Rest-clause-ok g c =
    let before = c.loop-turns.invariant.0 in
    let step = rw c.in-Rest.is at c.in_ok-next_chunk.ensures.ok in
    TakesLine-rest _ _ _ c.next_chunk.new.line before.0 step.0 before.1 before.2 step.2 step.1 (step.3 before.0 before.3)

pub returns-in-End-clause-ok : goal.returns-in-End-clause-ok
returns-in-End-clause-ok g c =
    let before = c.loop-turns.invariant.0 in
    let line = c.next_chunk.new.line in
    let step = rw c.in-End.is at c.in_ok-next_chunk.ensures.ok in
    let same : before.0 ++ step.0 ≡ before.0 = ap (λ l. before.0 ++ l) step.2.0 ∙ append-nil before.0 in
    let held : Holds line before.0 = subst (Holds line) same (step.3 before.0 before.3) in
    TakesLine-end _ _ _ line before.0 c.is_empty.result before.1 before.2 step.2.1 step.2.2 held (c.is_empty.ensures before.0 held)
