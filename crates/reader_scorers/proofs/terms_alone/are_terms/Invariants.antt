use Rattle.std.proofs.Common.{drop}
use Rattle.reader_scorers.specs.Terms.{AreTerms}
use Rattle.reader_scorers.proofs.terms_alone.are_terms.Given as goal

-- all are, if those left are
abbrev pub invariant-loop-scorer : goal.invariant-loop-scorer
invariant-loop-scorer g l = AreTerms (drop l.scorer-index l.scorer-items) → AreTerms l.fn.scorers.items
