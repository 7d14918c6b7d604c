use Rattle.std.proofs.Common.{◌*◌, ap, sym, ◌∙◌}
use Rattle.docsets.proofs.EntryLaws.{IsRest-from}
use Rattle.docsets.specs.ScoredEntries.{greatest_score}
use Rattle.docsets.proofs.ScoredEntryLaws.{boost-fits, greatest-rest, from-rescored, IsRest-along}
use Rattle.docsets.specs.ScoredEntries.{rescored_by}
use Rattle.docsets.proofs.boost_scorer.BoostScorerDocSet.seek.Goals as goal

pub invariant_of-self : goal.invariant_of-self
invariant_of-self g c = record { fits = boost-fits c.args.self.now.boost (greatest_score (g.S.DocSet.entries c.seek.new.self)) (greatest_score (g.S.DocSet.entries c.args.self.now.underlying)) (greatest-rest (g.S.DocSet.entries c.seek.new.self) (g.S.DocSet.entries c.args.self.now.underlying) (IsRest-along _ _ _ c.seek.ensures.rest (IsRest-from c.args.target 0 (g.S.DocSet.entries c.args.self.now.underlying) (g.met.S.DocSet.rising c.args.self.now.underlying)))) c.args.self.now.fits }

pub returns-clause-rest : goal.returns-clause-rest
returns-clause-rest g c = ap (rescored_by (λ e. c.args.self.now.boost * e.score)) c.seek.ensures.rest ∙ sym (from-rescored (λ e. c.args.self.now.boost * e.score) c.args.target (g.S.DocSet.entries c.args.self.now.underlying))
