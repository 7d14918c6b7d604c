use Rattle.std.proofs.Common.{◌≤◌, ℕ, List}
use Rattle.std.specs.Io.KnownBytes.{Consumes, Keeps}
use Rattle.serve_lines.specs.Reading.{HasNoNewline, Holds}
use Rattle.serve_lines.proofs.line_reader.read_line.Given as goal

abbrev pub invariant-loop-turns : goal.invariant-loop-turns
invariant-loop-turns g l =
    ((seen : List ℕ) × Consumes (g.R.Read.remaining l.initial.reader) (g.R.Read.remaining l.reader) seen
    × HasNoNewline seen × Holds l.line seen)
    × Keeps (g.W.Write.contents l.initial.writer) (g.W.Write.contents l.writer)
    × (l.turns ≤ l.initial.turns)

abbrev pub decreases-loop-turns : goal.decreases-loop-turns
decreases-loop-turns g l = l.turns
