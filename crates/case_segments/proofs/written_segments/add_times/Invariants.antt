use Rattle.std.proofs.Common.{List, ℕ}
use Rattle.definitions.specs.Values.{Document}
use Rattle.segment.specs.Writers.{HasWritten}
use Rattle.case_segments.proofs.written_segments.add_times.Given as goal

abbrev pub invariant-loop : goal.invariant-loop
invariant-loop g l = (block_size : ℕ) × (all : List Document) × HasWritten l.schema (g.A.Analyzer.analyze l.analyzer) block_size l.writer all
