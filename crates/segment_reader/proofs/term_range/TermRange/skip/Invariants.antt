use Rattle.std.proofs.Common.{drop, ◌≡◌}
use Rattle.segment_reader.proofs.term_range.TermRange.skip.Given as goal

abbrev pub invariant-loop : goal.invariant-loop
invariant-loop l = l.self.rest ≡ drop l.counter l.fn.self.rest
