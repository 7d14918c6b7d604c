use Rattle.std.proofs.Common.{ap, min, sym, ◌∙◌}
use Rattle.docsets.proofs.ScoredEntryLaws.{docs-taken, length-rescored, drop-rescored}
use Rattle.docsets.specs.ScoredEntries.{rescored_by}
use Rattle.docsets.proofs.const_scorer.ConstScorerDocSet.fill_buffer.Goals as goal

pub returns-clause-len : goal.returns-clause-len
returns-clause-len g c = c.fill_buffer.ensures.len ∙ ap (min 64) (sym (length-rescored (λ e. c.args.self.now.score) (g.D.DocSet.entries c.args.self.now.docset)))

pub returns-clause-written : goal.returns-clause-written
returns-clause-written g c = c.fill_buffer.ensures.written ∙ sym (docs-taken (λ e. c.args.self.now.score) 64 (g.D.DocSet.entries c.args.self.now.docset))

pub returns-clause-rest : goal.returns-clause-rest
returns-clause-rest g c = ap (rescored_by (λ e. c.args.self.now.score)) c.fill_buffer.ensures.rest ∙ sym (drop-rescored (λ e. c.args.self.now.score) 64 (g.D.DocSet.entries c.args.self.now.docset))
