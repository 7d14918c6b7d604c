use Rattle.std.proofs.Common.{◌*◌}
use Rattle.docsets.specs.ScoredEntries.{greatest_score}
use Rattle.docsets.proofs.ScoredEntryLaws.{boost-fits, greatest-rest, danger-rescored, danger-rest}
use Rattle.docsets.proofs.boost_scorer.BoostScorerDocSet.seek_danger.Goals as goal

pub invariant_of-self : goal.invariant_of-self
invariant_of-self g c = record { fits = boost-fits c.args.self.now.boost (greatest_score (g.S.DocSet.entries c.seek_danger.new.self)) (greatest_score (g.S.DocSet.entries c.args.self.now.underlying)) (greatest-rest (g.S.DocSet.entries c.seek_danger.new.self) (g.S.DocSet.entries c.args.self.now.underlying) (danger-rest c.seek_danger.result c.args.target (g.S.DocSet.entries c.args.self.now.underlying) (g.S.DocSet.entries c.seek_danger.new.self) (g.met.S.DocSet.rising c.args.self.now.underlying) c.seek_danger.ensures)) c.args.self.now.fits }

pub returns : goal.returns
returns g c = danger-rescored (λ e. c.args.self.now.boost * e.score) c.seek_danger.result c.args.target (g.S.DocSet.entries c.args.self.now.underlying) (g.S.DocSet.entries c.seek_danger.new.self) c.seek_danger.ensures
