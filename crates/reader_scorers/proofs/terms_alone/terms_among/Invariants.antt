use Rattle.std.proofs.Common.{length, ◌++◌, ◌≡◌}
use Rattle.reader_scorers.specs.Terms.{terms_in}
use Rattle.reader_scorers.proofs.terms_alone.terms_among.Given as goal

-- the terms so far and those left are all
abbrev pub invariant-loop-scorer : goal.invariant-loop-scorer
invariant-loop-scorer g l = l.terms.items ++ terms_in l.left.items ≡ terms_in l.fn.scorers.items

abbrev pub decreases-loop-scorer : goal.decreases-loop-scorer
decreases-loop-scorer g l = length l.left.items
