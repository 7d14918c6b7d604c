-- Terms that have their offsets, and those left with the offsets left, are all.
use Rattle.std.proofs.Common.{drop, reverse, zip, ◌++◌, ◌≡◌}
use Rattle.query_checks.proofs.json_phrases.paired.Given as goal

abbrev pub invariant-loop-offset : goal.invariant-loop-offset
invariant-loop-offset l = l.pairs.items ++ zip (drop l.offset-index l.offsets) (reverse l.left.items) ≡ zip l.offsets l.fn.terms.items
