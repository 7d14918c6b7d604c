use Rattle.docsets.proofs.ScoredEntryLaws.{AreScores-next, scored-next}
use Rattle.definitions.specs.Scoring.{natural}
use Rattle.docsets.proofs.list_scorer.ListScorerDocSet.advance.Goals as goal

pub invariant_of-self : goal.invariant_of-self
invariant_of-self c = record { scores = AreScores-next c.args.self.now.cursor c.args.self.now.pairs.items c.args.self.now.scores }

pub returns-clause-rest : goal.returns-clause-rest
returns-clause-rest c = scored-next (λ p. (p.0, natural p.1)) c.args.self.now.pairs.items c.args.self.now.cursor
