use Rattle.std.proofs.Common.{◌*◌, ap, min, sym, ◌∙◌}
use Rattle.docsets.specs.ScoredEntries.{greatest_score}
use Rattle.docsets.proofs.ScoredEntryLaws.{boost-fits, greatest-rest, docs-taken, length-rescored, drop-rescored}
use Rattle.docsets.specs.ScoredEntries.{rescored_by}
use Rattle.docsets.proofs.boost_scorer.BoostScorerDocSet.fill_buffer.Goals as goal

pub invariant_of-self : goal.invariant_of-self
invariant_of-self g c = record { fits = boost-fits c.args.self.now.boost (greatest_score (g.S.DocSet.entries c.fill_buffer.new.self)) (greatest_score (g.S.DocSet.entries c.args.self.now.underlying)) (greatest-rest (g.S.DocSet.entries c.fill_buffer.new.self) (g.S.DocSet.entries c.args.self.now.underlying) (64, c.fill_buffer.ensures.rest)) c.args.self.now.fits }

pub returns-clause-len : goal.returns-clause-len
returns-clause-len g c = c.fill_buffer.ensures.len ∙ ap (min 64) (sym (length-rescored (λ e. c.args.self.now.boost * e.score) (g.S.DocSet.entries c.args.self.now.underlying)))

pub returns-clause-written : goal.returns-clause-written
returns-clause-written g c = c.fill_buffer.ensures.written ∙ sym (docs-taken (λ e. c.args.self.now.boost * e.score) 64 (g.S.DocSet.entries c.args.self.now.underlying))

pub returns-clause-rest : goal.returns-clause-rest
returns-clause-rest g c = ap (rescored_by (λ e. c.args.self.now.boost * e.score)) c.fill_buffer.ensures.rest ∙ sym (drop-rescored (λ e. c.args.self.now.boost * e.score) 64 (g.S.DocSet.entries c.args.self.now.underlying))
