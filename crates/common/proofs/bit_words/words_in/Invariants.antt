use Rattle.std.proofs.Common.{length}
use Rattle.common.proofs.WordBytes.{Reads}
use Rattle.common.proofs.bit_words.words_in.Given as goal

abbrev pub invariant-loop-first : goal.invariant-loop-first
invariant-loop-first l = Reads l.bytes l.words.items l.rest

abbrev pub decreases-loop-first : goal.decreases-loop-first
decreases-loop-first l = length l.rest
