use Rattle.std.proofs.Common.{length}
use Rattle.codes.proofs.SkipReading.{Seeks}
use Rattle.codes.proofs.skip_reader.SkipReader.seek.Given as goal

abbrev pub invariant-loop-moved : goal.invariant-loop-moved
invariant-loop-moved l = Seeks l.fn.target l.fn.self l.self l.moved

abbrev pub decreases-loop-moved : goal.decreases-loop-moved
decreases-loop-moved l = length l.self.left
